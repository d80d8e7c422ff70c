use Rattle.std.proofs.Common.{ℕ, refl}
use Rattle.casper_words.specs.Crew.{IsClient}
use Rattle.casper_model.specs.declared.event.Event.TheVariants as event
use Rattle.casper_model.specs.Answers.{of_depart, of_vanish}
use Rattle.casper_model.specs.Leave.{depart, vanish}
use Rattle.casper_core.proofs.Leaves.{IsStepOf}

-- A departure, and the vanishing of a client, are turns of it.

pub depart_is : (who : ℕ) → IsClient who → IsStepOf depart of_depart who (event.Depart who)
depart_is who client = record { steps = λ state outside. refl; made = λ state said. refl; named = client }

pub vanish_is : (who : ℕ) → IsClient who → IsStepOf vanish of_vanish who (event.Vanish who)
vanish_is who client = record { steps = λ state outside. refl; made = λ state said. refl; named = client }
