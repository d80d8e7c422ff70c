use Rattle.std.proofs.Common.{◌≡◌, ℕ, Bool, true, false, cond, List, rules, refl, sym, ap, ◌∙◌}
use denote.Enum.Bare.{same_true}
use Rattle.casper_gather.specs.contracts.stab.Phase.{the_type}
use Rattle.casper_model.specs.Stabilisation.{Stabilisation, is_gathering, handed_in_by, is_empty, without, phase_awaiting}
use Rattle.casper_gather.specs.declared.stab.Stab.{Stab}
use Rattle.casper_gather.specs.declared.stab.Phase.{Phase}
use Rattle.casper_gather.specs.declared.stab.Phase.TheVariants.{Gathering, Sealed}
use Rattle.casper_gather.specs.Bookkeeping.{stabilisation_of, phase_of}
use Rattle.casper_gather.proofs.Awaited.{without_is}
use Rattle.casper_gather.proofs.stab.Stab.handed.Goals as goal

-- a phase that awaits these, as the machine has it
phase_as : (left : List ℕ) (phase : Phase) → phase ≡ cond (is_empty left) Sealed Gathering → phase_of phase ≡ phase_awaiting left
phase_as left phase is = ap phase_of is ∙ by (is_empty left)
  where
    by : (b : Bool) → phase_of (cond b Sealed Gathering) ≡ cond b (phase_of Sealed) (phase_of Gathering)
    by true = refl
    by false = refl

pub returns-then-eq-clause-handed : goal.returns-then-eq-clause-handed
returns-then-eq-clause-handed c =
    let old : Stab = c.args.self.now in
    let one : Stabilisation = stabilisation_of old in
    let left : c.without-self.result ≡ without c.args.who old.left = c.without-self.ensures.members
    ∙ without_is old.left c.args.who c.without-self.ensures.source in
    let phase : phase_of c.phase_awaiting-self.result ≡ phase_awaiting (without c.args.who old.left) =
    phase_as c.without-self.result c.phase_awaiting-self.result c.phase_awaiting-self.ensures ∙ ap phase_awaiting left in
    let same : old.phase ≡ Gathering = same_true the_type (search rules) _ _ (sym c.if-eq.ensures) in
    let gathering : is_gathering (phase_of old.phase) ≡ true = ap (λ (p : Phase). is_gathering (phase_of p)) same in
    ap (λ (l : List ℕ). record one { awaited = l; phase = phase_of c.phase_awaiting-self.result }) left
    ∙ ap (λ p. record one { awaited = without c.args.who old.left; phase = p }) phase
    ∙ sym (ap (λ b. cond b (handed_in_by c.args.who one) one) gathering)
