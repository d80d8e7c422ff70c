use Rattle.std.proofs.Common.{◌≡◌, ℕ, List, Contains, cond, ◌==◌, map, sym, ap, ◌∙◌, subst}
use Rattle.std.specs.Prelude.{Option, Some, option_map}
use Rattle.casper_model.specs.Opening.{gathering_of}
use Rattle.casper_model.specs.Shared.{Shared}
use Rattle.casper_model.specs.Stabilisation.{Stabilisation, handed_in_by}
use Rattle.casper_turns.specs.Good.{IsGoodShared}
use Rattle.casper_turns.proofs.OpeningFrozen.{gathering_found}
use Rattle.casper_gather.specs.Bookkeeping.{stabilisation_of}
use Rattle.casper_gather.specs.Unended.{led_by}
use Rattle.casper_gather.specs.UnendedLaws.{stabilisations_of}
use Rattle.casper_gather.proofs.Shown.{changed_alike}
use Rattle.casper_frozen.specs.Bridge.{Keeps}
use Rattle.casper_hub.specs.Handing.{HandsInTheirPages}
use Rattle.casper_hub.specs.Stages.{with_handed_in}
use Rattle.casper_hub.proofs.Giving.{covers_after}
use Rattle.casper_hub.proofs.Leads.{have_one_in, led_here}
use Rattle.casper_hub.proofs.hand_in.hand_in_to_gathering.Goals as goal

-- the stabilisations once the one that gathers no longer awaits the client
each_after : (c : goal.After-change) (shared : Shared) → Keeps c.args.unended.now c.args.associations.now shared → IsGoodShared shared
    → gathering_of shared c.args.who ≡ Some (stabilisation_of c.in-Some.gathering)
    → stabilisations_of c.change.new.self.each ≡ with_handed_in c.args.who (stabilisation_of c.in-Some.gathering) (stabilisations_of c.args.unended.now.each)
each_after c shared keeps good found =
    let there = gathering_found shared c.args.who (stabilisation_of c.in-Some.gathering) found in
    let have = have_one_in shared c.args.unended.now.each keeps.stabilisations good in
    let here = led_here c.args.unended.now.each (stabilisation_of c.in-Some.gathering) have
    (subst (λ (list : List Stabilisation). Contains list (stabilisation_of c.in-Some.gathering)) keeps.stabilisations there.0) in
    let same : stabilisation_of c.handed.new.self ≡ handed_in_by c.args.who (stabilisation_of c.in-Some.gathering) =
    c.handed.ensures.handed
    ∙ ap (λ b. cond b (handed_in_by c.args.who (stabilisation_of c.in-Some.gathering)) (stabilisation_of c.in-Some.gathering)) there.1 in
    let lead : c.handed.new.self.lead ≡ c.in-Some.gathering.lead = ap (λ (s : Stabilisation). s.lead) same in
    ap stabilisations_of c.change.ensures.each
    ∙ changed_alike (handed_in_by c.args.who) here.0 c.handed.new.self c.args.unended.now.each have
    (ap (λ (l : ℕ). led_by l c.args.unended.now.each) lead ∙ here.1) (same ∙ ap (handed_in_by c.args.who) (sym here.2))
    ∙ ap (λ (l : ℕ). map (λ (other : Stabilisation). cond (other.lead == l) (handed_in_by c.args.who other) other) (stabilisations_of c.args.unended.now.each)) lead

pub returns-clause-handed : goal.returns-clause-handed
returns-clause-handed c shared keeps good =
    let found : gathering_of shared c.args.who ≡ Some (stabilisation_of c.in-Some.gathering) =
    sym (c.gathering_of.ensures.gathering shared keeps) ∙ ap (option_map stabilisation_of) c.in-Some.is in
    subst (λ (one : Option Stabilisation). HandsInTheirPages c.args.who one c.args.unended.now c.args.pages.now c.args.cache.now c.change.new.self c.hand_in.new.pages c.hand_in.new.cache)
    (sym found)
    (record {
      each = each_after c shared keeps good found;
      gives = c.hand_in.ensures.gives;
      rights = c.hand_in.ensures.rights;
      own_is = c.hand_in.ensures.cache;
    })

pub returns-clause-covers : goal.returns-clause-covers
returns-clause-covers c =
    covers_after c.args.who c.args.pages.now c.hand_in.new.pages c.args.cache.now.held c.hand_in.new.cache.held c.requires.covers c.hand_in.ensures.gives
