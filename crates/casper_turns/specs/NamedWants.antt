use Rattle.std.specs.Prelude.{List, [], ◌∷◌, ⊤}
use Rattle.casper_words.specs.declared.page.Want.{Want}
use Rattle.casper_model.specs.declared.event.Event.{Event}
use Rattle.casper_model.specs.declared.event.Event.TheVariants as event
use Rattle.casper_model.specs.Run.{Happening}

-- the wants of an event that names wants are such as W says
abbrev pub WantsAre : (List Want → Type 0) → Event → Type 0
WantsAre W (event.Acquire who wants) = W wants
WantsAre W (event.Hold who wants) = W wants
WantsAre W other = ⊤

-- those of each event are
abbrev pub AllWantsAre : (List Want → Type 0) → List Happening → Type 0
AllWantsAre W [] = ⊤
AllWantsAre W (first ∷ following) = WantsAre W first.event × AllWantsAre W following
