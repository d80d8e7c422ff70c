use Rattle.std.proofs.Common.{◌≡◌, ℕ, List, Contains, refl, sym, ap, ◌∙◌, subst}
use Rattle.std.specs.Prelude.{Option, None, Some, find, option_map}
use Rattle.casper_model.specs.Stabilise.{with_asker}
use Rattle.casper_turns.specs.Good.{IsGoodShared}
use Rattle.casper_turns.proofs.Lists.{contains_mapped}
use Rattle.casper_model.specs.Frozen.{is_member, stabilisation_of as machine_stabilisation_of}
use Rattle.casper_model.specs.Shared.{Shared}
use Rattle.casper_model.specs.Stabilisation.{Stabilisation}
use Rattle.casper_gather.specs.Bookkeeping.{stabilisation_of}
use Rattle.casper_gather.specs.UnendedLaws.{stabilisations_of}
use Rattle.casper_hub.specs.HubFields.{hub_of}
use Rattle.casper_hub.specs.Stabilising.{with_asked}
use Rattle.casper_hub.proofs.Noting.{changed_in_machine}
use Rattle.casper_hub.proofs.ShownPlaces.{none_at}
use Rattle.casper_hub.proofs.stabilise.stabilise_opened.Goals as goal

-- what is found where the server's list is kept is what its hub shows
in_hub : (shared : Shared) (list : List Stabilisation) (who : ℕ) (found : Option Stabilisation) → shared.stabilisations ≡ list → found ≡ machine_stabilisation_of shared who
    → find (is_member shared who) list ≡ found
in_hub shared list who found same is = ap (find (is_member shared who)) (sym same) ∙ sym is

-- the stabilisations once the client waits for this one
each_after : (c : goal.After-progress) (shared : Shared) → shared.stabilisations ≡ stabilisations_of c.args.unended.now.each → IsGoodShared shared
    → Contains c.args.unended.now.each c.in-Some-member_of.one
    → stabilisations_of c.change.new.self.each ≡ with_asked c.args.who (stabilisation_of c.in-Some-member_of.one) (stabilisations_of c.args.unended.now.each)
each_after c shared list good inside =
    ap stabilisations_of c.change.ensures.each
    ∙ changed_in_machine shared c.args.unended.now.each c.in-Some-member_of.one c.ask.new.self (with_asker c.args.who) good list
    (subst (λ all. Contains all (stabilisation_of c.in-Some-member_of.one)) (sym list) (contains_mapped stabilisation_of c.args.unended.now.each c.in-Some-member_of.one inside))
    (ap (λ (one : Stabilisation). one.lead) c.ask.ensures.asked) c.ask.ensures.asked

pub returns-in-Some-member_of-clause-stabilises : goal.returns-in-Some-member_of-clause-stabilises
returns-in-Some-member_of-clause-stabilises c shared keeps good limit clients =
    rw (
      none_at c.args.kept c.in_default.not-Some,
      in_hub shared (stabilisations_of c.args.unended.now.each) c.args.who (Some (stabilisation_of c.in-Some-member_of.one)) keeps.stabilisations (c.in-Some-member_of.ensures.member shared keeps),
    )
    (record {
      replies = c.progress.ensures;
      hub_is = ap (λ (list : List Stabilisation). hub_of shared.trail limit list clients c.args.pages.now)
          (each_after c shared keeps.stabilisations good c.in-Some-member_of.ensures.unended);
      own_is = refl;
    })

pub returns-clause-stabilises : goal.returns-clause-stabilises
returns-clause-stabilises c shared keeps good limit clients =
    rw (
      none_at c.args.kept c.in_default.not-Some,
      in_hub shared (stabilisations_of c.args.unended.now.each) c.args.who None keeps.stabilisations
          (sym (ap (option_map stabilisation_of) (none_at c.member_of.result c.in_default-member_of.not-Some)) ∙ c.member_of.ensures.member shared keeps),
    )
    (c.freeze.ensures.freezes shared.trail keeps.clients keeps.associations limit clients)
