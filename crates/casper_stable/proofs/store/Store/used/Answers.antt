use Rattle.std.proofs.Common.{◌≡◌, ◌+◌, ℕ, ◌∙◌, ap, subst}
use Rattle.casper_space.specs.Changes.{free_of}
use Rattle.casper_map.specs.Room.{room_of}
use Rattle.casper_map.proofs.RoomLemmas.{rooms_have_the_free_frames}
use Rattle.casper_stable.specs.Kept.{Kept}
use Rattle.casper_stable.proofs.store.Store.used.Goals as goal

pub returns-clause-free : goal.returns-clause-free
returns-clause-free g c =
    let held = c.self.inside.map in
    subst (λ (kept : Kept g.row.D.Denot). c.used.result + free_of (room_of kept.held) ≡ kept.held.frames) c.self.view_is
    (ap (λ (free : ℕ). c.used.result + free) (rooms_have_the_free_frames held c.used.ensures.apart c.used.ensures.in_range)
    ∙ c.used.ensures.free)
