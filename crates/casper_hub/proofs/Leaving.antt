use Rattle.std.proofs.Common.{ℕ, List, [], sym, subst, arith}
use Rattle.std.specs.Prelude.{None}
use Rattle.casper_trail.specs.Modified.{is_modified}
use Rattle.casper_cache.specs.Own as cache
use Rattle.casper_hub.specs.HubView.{HubView}
use Rattle.casper_hub.specs.Words.{live_value, stored_value, seen_value, FramesAreRight, CacheIsRight}
use Rattle.casper_hub.specs.Stages.{Leaves, without_asker}
use Rattle.casper_hub.specs.Sound.{IsWellFormed}
use Rattle.casper_hub.proofs.Whole.{Whole, Owning}
use Rattle.casper_hub.proofs.Relying.{same_held}
use Rattle.casper_hub.proofs.Changing.{changed, formed_beside, formed_changed}
use Rattle.casper_hub.proofs.Opened.{framed_left, seen_without_calls}
use Rattle.casper_hub.proofs.TurnOpened.{opening_whole, opening_pending, opening_up, opening_frames, opening_words}

-- what follows where a turn of a client that owns its cache opened, every page was given up, and the client is absent

module _ (hub : HubView) (own : cache.Own) (after : HubView) (own_after : cache.Own) (sound : Whole hub) (owns : Owning hub own)
    (leaves : Leaves own.client hub own after own_after) where
  -- the hub is sound once its turn has opened
  pub opened_before_leaving : Whole leaves.opened
  opened_before_leaving = opening_whole hub own leaves.opened leaves.opened_own sound owns leaves.opens

  -- its parts fit together
  pub left_formed : IsWellFormed after
  left_formed =
      subst IsWellFormed (sym leaves.hub_is)
      (formed_beside (changed leaves.opened leaves.opened.trail own.client None after.pages) (without_asker own.client leaves.opened.stabilisations)
      (formed_changed leaves.opened leaves.opened.trail own.client None after.pages opened_before_leaving.sound.formed owns.client
      (λ ask inside. absurd (omega (arith, inside.1)))
      leaves.gives.rights_count leaves.gives.frames_count leaves.gives.holders leaves.gives.others
      (framed_left own.client leaves.opened leaves.opened_own.held [] after.pages opened_before_leaving leaves.gives) leaves.gives.framed
      (λ page modified. leaves.gives.framed page (opened_before_leaving.sound.formed.modified page modified))))

-- the frames of the server stay right
pub left_frames : (base : List (List ℕ)) (hub : HubView) (own : cache.Own) (after : HubView) (own_after : cache.Own) → Whole hub → Owning hub own
    → Leaves own.client hub own after own_after → FramesAreRight base hub → CacheIsRight base hub own → FramesAreRight base after
left_frames base hub own after own_after sound owns leaves frames words =
    subst (FramesAreRight base) (sym leaves.hub_is)
    (leaves.gives.words (is_modified opened.trail) (live_value base opened) (stored_value base opened)
    (opening_frames hub own leaves.opened leaves.opened_own sound owns leaves.opens base frames words)
    (same_held (seen_value base opened leaves.opened_own) (live_value base opened) leaves.opened_own.held
    (λ page word held.
    seen_without_calls base opened leaves.opened_own (opening_up hub own leaves.opened leaves.opened_own sound owns leaves.opens) (opening_pending hub own leaves.opened leaves.opened_own sound owns leaves.opens) page word)
    (opening_words hub own leaves.opened leaves.opened_own sound owns leaves.opens base words)))
  where
    opened : HubView
    opened = leaves.opened
