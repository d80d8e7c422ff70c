use Rattle.std.proofs.Common.{◌≡◌, ◌<◌, ◌+◌, ℕ, List, Option, false, true, length, length-set, refl, sym, ap, ◌∙◌, subst, arith}
use Rattle.std.specs.Prelude.{slice_set}
use Rattle.casper_assoc.specs.TrailAssociations.{open_calls_of}
use Rattle.casper_hub.specs.HubView.{ClientView, place_in, felled}
use Rattle.casper_hub.proofs.Felling.{ChangedBelow, changed_none, changed_next, stays_next}
use Rattle.casper_hub.proofs.lose.fell_each.Goals as goal
use Rattle.casper_hub.proofs.lose.fell_each.Goals.{in-Some+then-has, in-Some+else-has, in_default}

-- a test does not both pass and fail
false_is_not_true : false ≡ true → ⊥
false_is_not_true e = cc

pub loop-number-init : goal.loop-number-init
loop-number-init c = record {
  count = refl;
  fallen = changed_none (λ who. felled (record { mark = c.args.mark; dropped = open_calls_of c.args.associations.now who })) c.args.members c.args.clients.now;
}

pub loop-number-preserved : goal.loop-number-preserved
loop-number-preserved c =
    let fall : ℕ → Option ClientView → Option ClientView = λ who. felled (record { mark = c.args.mark; dropped = open_calls_of c.args.associations.now who }) in
    let below : c.loop-number.number < length c.loop-number.clients = omega (arith, c.loop-number.invariant.count, c.requires) in
    elim c.match-new.branch [
      | in-Some+then-has w ↦ record {
        count = ap length w.clients-is ∙ ap length w.fell.ensures ∙ length-set c.loop-number.clients w.in-Some.who _ ∙ c.loop-number.invariant.count;
        fallen = changed_next fall c.args.members c.args.clients.now c.loop-number.clients c.match-new.clients c.loop-number.number w.in-Some.who w.in-Some.ensures.number (omega (arith, c.loop-number.auto.number)) below
            c.loop-number.invariant.fallen (sym w.has.ensures.member ∙ w.if-has.true)
            (w.clients-is ∙ w.fell.ensures
            ∙ ap (λ (n : ℕ). slice_set c.loop-number.clients w.in-Some.who (felled (record { mark = c.args.mark; dropped = n }) (place_in c.loop-number.clients w.in-Some.who)))
            w.open_calls-dropped.ensures.count);
      }
      | in-Some+else-has w ↦ record {
        count = ap length w.clients-is ∙ c.loop-number.invariant.count;
        fallen = subst (λ (now : List (Option ClientView)). ChangedBelow (c.loop-number.number + 1) fall c.args.members c.args.clients.now now) (sym w.clients-is)
            (stays_next fall c.args.members c.args.clients.now c.loop-number.clients c.loop-number.number w.in-Some.who w.in-Some.ensures.number c.loop-number.invariant.fallen
            (sym w.has.ensures.member ∙ w.if-has.false));
      }
      | in_default w ↦
          let never : false ≡ true = w.in_default.ensures.exactly.1 (omega arith, omega arith) in
          absurd (false_is_not_true never)
    ]

pub returns-clause-members : goal.returns-clause-members
returns-clause-members c =
    let last : c.loop-number.number ≡ 33 = omega arith in
    subst (λ (n : ℕ). ChangedBelow n (λ who. felled (record { mark = c.args.mark; dropped = open_calls_of c.args.associations.now who })) c.args.members c.args.clients.now c.loop-number.clients) last
    c.loop-number.invariant.fallen
