use Rattle.std.specs.Prelude.{◌≡◌, ◌<◌, ℕ, List, All, Contains, Option, Some, ◌&&◌, ◌==◌, find, is_some, map, slice_get}
use Rattle.std.specs.List.Sorted.{IsStrictlyIncreasing}
use Rattle.casper_words.specs.Crew.{crew_of}
use Rattle.casper_trail.specs.Association.{association_of}
use Rattle.casper_model.specs.Stabilisation.{Stabilisation, is_sealed}
use Rattle.casper_model.specs.Frozen.{pages_modified_by}
use Rattle.casper_frozen.specs.Jobs.{JobView}
use Rattle.casper_hub.specs.HubView.{HubView, PagesView, page_count, frame_in}
use Rattle.casper_hub.specs.Words.{FramesAreRight, AreWords, live_value}

-- the sealed stabilisation of a lead, if there is one
abbrev pub sealed_in : HubView → ℕ → Option Stabilisation
sealed_in hub lead = find (λ one. (one.lead == lead) && is_sealed one.phase) hub.stabilisations

-- the least lead of a sealed stabilisation, if there is one
abbrev pub first_sealed_in : HubView → Option ℕ
first_sealed_in hub = slice_get (crew_of (λ lead. is_some (sealed_in hub lead))) 0

-- the pages of some changes
abbrev pub pages_of : List (ℕ × List ℕ) → List ℕ
pages_of changes = map (λ change. change.0) changes

-- these are copies of the frames of these pages, in order
pub record AreCopiesOf (held : PagesView) (each : List ℕ) (changes : List (ℕ × List ℕ)) : Type 0 where
  pub pages : pages_of changes ≡ each
  pub frames : (change : ℕ × List ℕ) → Contains changes change → frame_in held change.0 ≡ Some change.1

-- a job of a client has the pages that its association has modified, rising, each with the words of the live entries
pub record IsJobOf (hub : HubView) (client : ℕ) (job : JobView) : Type 0 where
  pub lead : job.lead ≡ client
  pub pages : pages_of job.changes ≡ pages_modified_by hub.trail (association_of hub.trail client)
  pub rising : IsStrictlyIncreasing (pages_of job.changes)
  pub within : All (λ change. change.0 < page_count hub) job.changes
  pub words : (base : List (List ℕ)) → FramesAreRight base hub → (change : ℕ × List ℕ) → Contains job.changes change
      → AreWords (live_value base hub) change.0 change.1
