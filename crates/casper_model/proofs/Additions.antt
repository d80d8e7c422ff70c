use Rattle.std.proofs.Common.{◌≡◌, ℕ, List, ◌++◌, refl, sym, subst, ◌∙◌}
use Rattle.std.specs.Prelude.{Option, None, Some}
use Rattle.casper_words.specs.declared.page.Want.{Want}
use Rattle.casper_trail.specs.declared.item.Item.{Item}
use Rattle.casper_trail.specs.Parts.{as_items}
use Rattle.casper_trail.specs.Calls.{entries_by}
use Rattle.casper_model.specs.declared.reply.Reply.{Reply}
use Rattle.casper_model.specs.declared.outcome.Kept.{Kept}
use Rattle.casper_model.specs.Client.{Fallen}
use Rattle.casper_model.specs.Stabilisation.{Stabilisation}
use Rattle.casper_model.specs.Shared.{Shared, fallen_at}
use Rattle.casper_model.specs.Own.{Own}
use Rattle.casper_model.specs.Both.{Both}
use Rattle.casper_model.specs.Frozen.{stabilisation_of}
use Rattle.casper_model.specs.Opening.{opened, given_up, begun, gathering_of, handed_in_to}
use Rattle.casper_model.specs.Acquire.{acquired_by, answered, touches_by}
use Rattle.casper_model.specs.Stabilise.{stabilised, stabilised_by, stabilised_in, kept_at}
use Rattle.casper_model.specs.Leave.{served_by, departed_by}
use Rattle.casper_model.specs.Growth.{AddsOwn, AcquireAddsOwn, ServeAddsOwn, StabiliseAddsOwn, DepartAddsOwn}

trail_handed_in : (both : Both) (one : Option Stabilisation) → (handed_in_to both one).shared.trail ≡ both.shared.trail
trail_handed_in both None = refl
trail_handed_in both (Some one) = refl

who_handed_in : (both : Both) (one : Option Stabilisation) → (handed_in_to both one).own.who ≡ both.own.who
who_handed_in both None = refl
who_handed_in both (Some one) = refl

-- an opening records the pending calls
pub trail_opened : (shared : Shared) (own : Own) → (opened shared own).shared.trail ≡ shared.trail ++ as_items (entries_by own.who own.pending)
trail_opened shared own = let both = given_up (begun shared own) in trail_handed_in both (gathering_of both.shared both.own.who)

pub who_opened : (shared : Shared) (own : Own) → (opened shared own).own.who ≡ own.who
who_opened shared own = let both = given_up (begun shared own) in who_handed_in both (gathering_of both.shared both.own.who)

-- a trail like that of an opening has the calls added
calls_added : (shared : Shared) (own : Own) (after : List Item) → after ≡ (opened shared own).shared.trail → AddsOwn own.who own.pending shared.trail after
calls_added shared own after same = subst (AddsOwn own.who own.pending shared.trail) (sym (same ∙ trail_opened shared own)) AddsOwn.calls

touches_added : (shared : Shared) (own : Own) (wants : List Want)
    → AddsOwn own.who own.pending shared.trail ((opened shared own).shared.trail ++ as_items (touches_by (opened shared own).own.who wants))
touches_added shared own wants =
    subst (λ trail. AddsOwn own.who own.pending shared.trail (trail ++ as_items (touches_by (opened shared own).own.who wants))) (sym (trail_opened shared own))
    (subst (λ who. AddsOwn own.who own.pending shared.trail (shared.trail ++ as_items (entries_by own.who own.pending) ++ as_items (touches_by who wants))) (sym (who_opened shared own))
    (AddsOwn.touches wants))

answered_adds : (shared : Shared) (own : Own) (given : List ℕ) (wants missing : List Want) (refusal : Option Reply)
    → AddsOwn own.who own.pending shared.trail (answered (opened shared own) given wants missing refusal).shared.trail
answered_adds shared own given wants missing None = touches_added shared own missing
answered_adds shared own given wants missing (Some reply) = calls_added shared own (opened shared own).shared.trail refl

acquired_adds : (wants : List Want) (calls : ℕ) (shared : Shared) (own : Own) (fallen : Option Fallen)
    → AddsOwn own.who own.pending shared.trail (acquired_by shared own wants calls fallen).shared.trail
acquired_adds wants calls shared own (Some fallen) = AddsOwn.nothing
acquired_adds wants calls shared own None = answered_adds shared own _ wants _ _

pub acquire_adds : AcquireAddsOwn
acquire_adds wants calls shared own = acquired_adds wants calls shared own (fallen_at shared own.who)

served_adds : (shared : Shared) (own : Own) (fallen : Option Fallen) → AddsOwn own.who own.pending shared.trail (served_by shared own fallen).shared.trail
served_adds shared own (Some fallen) = AddsOwn.nothing
served_adds shared own None = calls_added shared own (opened shared own).shared.trail refl

pub serve_adds : ServeAddsOwn
serve_adds shared own = served_adds shared own (fallen_at shared own.who)

departed_adds : (shared : Shared) (own : Own) (fallen : Option Fallen) → AddsOwn own.who own.pending shared.trail (departed_by shared own fallen).shared.trail
departed_adds shared own (Some fallen) = AddsOwn.nothing
departed_adds shared own None = calls_added shared own (opened shared own).shared.trail refl

pub depart_adds : DepartAddsOwn
depart_adds shared own = departed_adds shared own (fallen_at shared own.who)

trail_stabilised_in : (both : Both) (one : Option Stabilisation) → (stabilised_in both one).shared.trail ≡ both.shared.trail
trail_stabilised_in both None = refl
trail_stabilised_in both (Some one) = refl

trail_stabilised : (both : Both) (kept : Option Kept) → (stabilised both kept).shared.trail ≡ both.shared.trail
trail_stabilised both None = trail_stabilised_in both (stabilisation_of both.shared both.own.who)
trail_stabilised both (Some outcome) = refl

stabilised_adds : (shared : Shared) (own : Own) (fallen : Option Fallen) → AddsOwn own.who own.pending shared.trail (stabilised_by shared own fallen).shared.trail
stabilised_adds shared own (Some fallen) = AddsOwn.nothing
stabilised_adds shared own None = calls_added shared own _ (trail_stabilised (opened shared own) (kept_at shared own.who))

pub stabilise_adds : StabiliseAddsOwn
stabilise_adds shared own = stabilised_adds shared own (fallen_at shared own.who)
