use Rattle.std.proofs.Common.{◌≡◌, List, subst, ap, ◌∙◌, arith}
use Rattle.std.specs.List.{Contains}
use Rattle.casper_words.specs.declared.page.Want.{Want}
use Rattle.casper_model.proofs.MarkHistory.{contains_kept}
use Rattle.casper_hub.specs.Deciding.{is_missing, missing_in, blockers_in, blocked_in}
use Rattle.casper_hub.proofs.Deciding.{decided_pending}
use Rattle.casper_hub.proofs.decide.decide.Goals as goal

pub blockers_of-blockers-requires : goal.blockers_of-blockers-requires
blockers_of-blockers-requires c want inside =
    let those : c.as_slice.result.now ≡ missing_in c.args.pages.now c.args.clients.now c.args.who c.args.wants.now = c.as_slice.ensures.wants ∙ c.missing_of-missing.ensures in
    c.requires.range want
    (contains_kept (is_missing c.args.pages.now c.args.clients.now c.args.who) c.args.wants.now want (subst (λ (l : List Want). Contains l want) those inside)).0

pub blocked_of-blocked-requires-clause-range : goal.blocked_of-blocked-requires-clause-range
blocked_of-blocked-requires-clause-range c want inside =
    let those : c.as_slice-then-count-gt0.result.now ≡ missing_in c.args.pages.now c.args.clients.now c.args.who c.args.wants.now = c.as_slice-then-count-gt0.ensures.wants ∙ c.missing_of-missing.ensures in
    c.requires.range want
    (contains_kept (is_missing c.args.pages.now c.args.clients.now c.args.who) c.args.wants.now want (subst (λ (l : List Want). Contains l want) those inside)).0

pub first_unframed-requires : goal.first_unframed-requires
first_unframed-requires c want inside =
    let those : c.as_slice-3.result.now ≡ missing_in c.args.pages.now c.args.clients.now c.args.who c.args.wants.now = c.as_slice-3.ensures.wants ∙ c.missing_of-missing.ensures in
    c.requires.range want
    (contains_kept (is_missing c.args.pages.now c.args.clients.now c.args.who) c.args.wants.now want (subst (λ (l : List Want). Contains l want) those inside)).0

pub returns-then-count-gt0 : goal.returns-then-count-gt0
returns-then-count-gt0 c =
    decided_pending c.args.pages.now c.args.clients.now c.args.who c.args.wants.now c.missing_of-missing.result c.blocked_of-blocked.result c.blockers_of-blockers.result c.args.calls c.args.cap
    c.missing_of-missing.ensures
    (c.blockers_of-blockers.ensures ∙ ap (blockers_in c.args.pages.now c.args.clients.now c.args.who) c.as_slice.ensures.wants)
    (c.blocked_of-blocked.ensures ∙ ap (blocked_in c.args.pages.now c.args.clients.now c.args.who) c.as_slice-then-count-gt0.ensures.wants)
    (omega arith)
