use Rattle.std.specs.Prelude.{◌≡◌, ℕ, List, ◌++◌, true, false, Contains}
use Rattle.std.specs.List.{list_any}
use Rattle.casper_words.specs.Crew.{has_member}
use Rattle.casper_trail.specs.declared.item.Item.{Item}
use Rattle.casper_trail.specs.Association.{association_of}
use Rattle.casper_trail.specs.Fate.{Open, fate_of}
use Rattle.casper_trail.specs.ImageLaws.{is_write_of}
use Rattle.casper_trail.specs.TrailView.{is_commit}
use Rattle.casper_model.specs.Shared.{Shared}
use Rattle.casper_model.specs.Stabilisation.{Stabilisation, is_gathering, is_doubtful}

-- a stabilisation is there still, with its lead, its phase and its members, where the trail got these items. They decide no
-- entry of a member, and none is a write of one
pub record StandsStill (shared after : Shared) (more : List Item) (one : Stabilisation) : Type 0 where
  pub same : Stabilisation
  pub there : Contains after.stabilisations same
  pub lead : same.lead ≡ one.lead
  pub phase : same.phase ≡ one.phase
  pub members : association_of after.trail one.lead ≡ association_of shared.trail one.lead
  pub decided : (who : ℕ) → has_member who (association_of shared.trail one.lead) ≡ true → fate_of who more ≡ Open
  pub written : list_any (is_write_of (association_of shared.trail one.lead)) more ≡ false

-- a stabilisation in doubt was so before
abbrev pub WasDoubtful : Shared → Stabilisation → Type 0
WasDoubtful shared one =
    (before : Stabilisation) × Contains shared.stabilisations before × (before.lead ≡ one.lead) × (is_doubtful before.phase ≡ true)

-- nothing is committed: the trail grows by items without a commit, each stabilisation that is sealed or in doubt stands
-- still, and none comes into doubt
pub record CommitsNothing (shared after : Shared) : Type 0 where
  pub more : List Item
  pub trail : after.trail ≡ shared.trail ++ more
  pub commits : list_any is_commit more ≡ false
  pub held : (one : Stabilisation) → Contains shared.stabilisations one → is_gathering one.phase ≡ false → StandsStill shared after more one
  pub doubts : (one : Stabilisation) → Contains after.stabilisations one → is_doubtful one.phase ≡ true → WasDoubtful shared one
