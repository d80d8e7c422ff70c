use Rattle.std.specs.Prelude.{◌≡◌, ℕ, map, Option, None, Some}
use Rattle.casper_words.specs.declared.page.Right.TheVariants as may
use Rattle.casper_dir.specs.Rights.{right_at}
use Rattle.casper_cache.specs.Holding.{with_right}
use Rattle.casper_cache.specs.Own as cache
use Rattle.casper_model.specs.Stabilisation.{Stabilisation}
use Rattle.casper_gather.specs.Unended.{UnendedView}
use Rattle.casper_gather.specs.UnendedLaws.{stabilisations_of}
use Rattle.casper_hub.specs.HubView.{PagesView}
use Rattle.casper_hub.specs.Given.{GivesUp, lowered_right}
use Rattle.casper_hub.specs.Stages.{with_handed_in}

-- the pages that a client holds for writing were handed in to a gathering stabilisation, and are kept for reading
pub record HandsInPages (who : ℕ) (gathering : Stabilisation) (unended : UnendedView) (pages : PagesView) (own : cache.Own) (unended_after : UnendedView) (after : PagesView) (own_after : cache.Own) : Type 0 where
  pub each : stabilisations_of unended_after.each ≡ with_handed_in who gathering (stabilisations_of unended.each)
  pub gives : GivesUp who pages own.held after own_after.held
  pub rights : (page : ℕ) → right_at after.rights who page ≡ lowered_right (right_at pages.rights who page)
  pub own_is : own_after ≡ record own { held = map (with_right may.Read) own.held }

-- they were, where there is one
abbrev pub HandsInTheirPages : ℕ → Option Stabilisation → UnendedView → PagesView → cache.Own → UnendedView → PagesView → cache.Own → Type 0
HandsInTheirPages who None unended pages own unended_after after own_after = (unended_after ≡ unended) × (after ≡ pages) × (own_after ≡ own)
HandsInTheirPages who (Some gathering) unended pages own unended_after after own_after =
    HandsInPages who gathering unended pages own unended_after after own_after
