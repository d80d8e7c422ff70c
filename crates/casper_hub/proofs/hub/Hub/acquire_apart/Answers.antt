use Rattle.std.proofs.Common.{◌≡◌, ◌<◌, ◌++◌, ℕ, List, length, arith, sym, ap, ◌∙◌, subst}
use Rattle.casper_words.specs.declared.page.Want.{Want}
use Rattle.casper_trail.specs.Calls.{entries_by}
use Rattle.casper_trail.specs.Parts.{as_items}
use Rattle.casper_trail.specs.TrailView.{entry_count, commit_count}
use Rattle.casper_model.specs.declared.reply.Reply.TheVariants.{Pending, TrailFull}
use Rattle.casper_hub.specs.declared.decide.Decision.TheVariants as decision
use Rattle.casper_hub.specs.HubView.{HubView, page_count, free_in}
use Rattle.casper_hub.specs.HubFields.{hub_of}
use Rattle.casper_hub.specs.Sound.{IsSound}
use Rattle.casper_hub.specs.Given.{topped}
use Rattle.casper_hub.specs.Deciding.{decision_for}
use Rattle.casper_hub.specs.Stages.{CanGrant}
use Rattle.casper_model.specs.Acquire.{acquire}
use Rattle.casper_hub.specs.Turns.{IsTurn, IsRefused}
use Rattle.casper_hub.proofs.Relying.{kept_itself, nothing_itself}
use Rattle.casper_hub.specs.Owned.{Owns}
use Rattle.casper_hub.proofs.ForClient.{cap_for}
use Rattle.casper_hub.proofs.AcquiredHere.{cap_here, decided_here, blocked_in_range, can_grant, may_decide, pending_so, full_so, load_so, at_once_refused, acquires_refused}
use Rattle.casper_hub.proofs.Whole.{whole_at, owning, within_sound, pending_within}
use Rattle.casper_hub.specs.HubView.{fallen_in}
use Rattle.casper_hub.proofs.hub.Hub.acquire_apart.Goals as goal
use Rattle.casper_gather.specs.UnendedLaws.{stabilisations_of}
use Rattle.std.specs.Prelude.{None, option_map}
use Rattle.casper_frozen.specs.Refused.{reply_of, refused_at_once}
use Rattle.casper_hub.specs.Deciding.{missing_in}
use Rattle.casper_hub.specs.Stages.{gathering_in, part_of}

pub free_room-free-requires : goal.free_room-free-requires
free_room-free-requires c = within_sound (hub_of c.self.inside.trail.items c.self.inside.limit (stabilisations_of c.self.inside.unended.each) c.self.inside.clients c.self.inside.pages) c.self.invariant.0

pub decide-requires-clause-range : goal.decide-requires-clause-range
decide-requires-clause-range c want among = subst (λ (h : HubView). want.page < page_count h) (sym c.self.view_is) (c.requires.range want among)

asked : (c : goal.After-refuse-arg-in-Pending-2-1) → decision.Pending c.in-Pending.blockers c.in-Pending.blocked ≡ decision_for c.args.self.now.pages c.args.self.now.clients c.args.cache.now.client c.args.wants.now c.args.calls (topped c.args.cache.now (free_in c.args.self.now))
asked c =
    decided_here c.args.self.now c.args.cache.now c.args.who c.self.inside.limit (stabilisations_of c.self.inside.unended.each) c.min-cap.result c.args.calls c.self.inside.trail.items c.self.inside.clients c.self.inside.pages c.args.wants.now (decision.Pending c.in-Pending.blockers c.in-Pending.blocked) c.self.view_is c.requires.client
    (cap_here c.args.self.now c.args.cache.now c.args.who c.self.inside.limit (stabilisations_of c.self.inside.unended.each) c.min-cap.result c.cap.result c.free_room-free.result c.self.inside.trail.items c.self.inside.clients c.self.inside.pages c.as_slice.result.now c.pending.result.now.items c.self.view_is c.requires.client (owning c.args.self.now c.args.cache.now (subst IsSound c.self.view_is c.self.invariant.0) c.requires.owns (ap (fallen_in c.args.self.now) c.requires.client ∙ c.requires.up)) c.min-cap.ensures c.cap.ensures c.as_slice.ensures c.pending.ensures c.free_room-free.ensures) c.in-Pending.ensures

pub refuse-requires-in-Pending-clause-range : goal.refuse-requires-in-Pending-clause-range
refuse-requires-in-Pending-clause-range c =
    blocked_in_range c.args.self.now c.args.cache.now c.args.calls (topped c.args.cache.now (free_in c.args.self.now)) c.args.wants.now c.in-Pending.blocked c.in-Pending.blockers (asked c) c.requires.range

pub refuse-requires-in-Pending-clause-refused : goal.refuse-requires-in-Pending-clause-refused
refuse-requires-in-Pending-clause-refused c = (
  c.args.wants.now,
  c.args.calls,
  Pending c.in-Pending.blockers,
  pending_so c.args.self.now c.args.cache.now c.args.wants.now
      (may_decide c.args.self.now (hub_of c.self.inside.trail.items c.self.inside.limit (stabilisations_of c.self.inside.unended.each) c.self.inside.clients c.self.inside.pages) c.args.who c.args.cache.now c.refusal.result c.args.wants.now c.self.view_is c.self.invariant.0 c.requires.owns c.requires.client c.requires.up c.requires.apart c.refusal.ensures c.in_default.not-Some)
      c.in-Pending.blocked c.in-Pending.blockers c.args.calls (asked c),
)

granting : (c : goal.After-missing-in-Grant-1) → decision.Grant c.in-Grant.missing ≡ decision_for c.args.self.now.pages c.args.self.now.clients c.args.cache.now.client c.args.wants.now c.args.calls (topped c.args.cache.now (free_in c.args.self.now))
granting c =
    decided_here c.args.self.now c.args.cache.now c.args.who c.self.inside.limit (stabilisations_of c.self.inside.unended.each) c.min-cap.result c.args.calls c.self.inside.trail.items c.self.inside.clients c.self.inside.pages c.args.wants.now (decision.Grant c.in-Grant.missing) c.self.view_is c.requires.client
    (cap_here c.args.self.now c.args.cache.now c.args.who c.self.inside.limit (stabilisations_of c.self.inside.unended.each) c.min-cap.result c.cap.result c.free_room-free.result c.self.inside.trail.items c.self.inside.clients c.self.inside.pages c.as_slice.result.now c.pending.result.now.items c.self.view_is c.requires.client (owning c.args.self.now c.args.cache.now (subst IsSound c.self.view_is c.self.invariant.0) c.requires.owns (ap (fallen_in c.args.self.now) c.requires.client ∙ c.requires.up)) c.min-cap.ensures c.cap.ensures c.as_slice.ensures c.pending.ensures c.free_room-free.ensures) c.in-Grant.ensures

pub grant-requires-clause-grants : goal.grant-requires-clause-grants
grant-requires-clause-grants c =
    subst (λ (who : ℕ). CanGrant who c.args.self.now c.args.cache.now c.args.wants.now c.in-Grant.missing) c.requires.client
    (can_grant c.args.self.now c.args.cache.now c.args.calls c.args.wants.now c.in-Grant.missing (granting c)).0

loading : (c : goal.After-commits) → decision.Load c.in-Load.page ≡ decision_for c.args.self.now.pages c.args.self.now.clients c.args.cache.now.client c.args.wants.now c.args.calls (topped c.args.cache.now (free_in c.args.self.now))
loading c =
    decided_here c.args.self.now c.args.cache.now c.args.who c.self.inside.limit (stabilisations_of c.self.inside.unended.each) c.min-cap.result c.args.calls c.self.inside.trail.items c.self.inside.clients c.self.inside.pages c.args.wants.now (decision.Load c.in-Load.page) c.self.view_is c.requires.client
    (cap_here c.args.self.now c.args.cache.now c.args.who c.self.inside.limit (stabilisations_of c.self.inside.unended.each) c.min-cap.result c.cap.result c.free_room-free.result c.self.inside.trail.items c.self.inside.clients c.self.inside.pages c.as_slice.result.now c.pending.result.now.items c.self.view_is c.requires.client (owning c.args.self.now c.args.cache.now (subst IsSound c.self.view_is c.self.invariant.0) c.requires.owns (ap (fallen_in c.args.self.now) c.requires.client ∙ c.requires.up)) c.min-cap.ensures c.cap.ensures c.as_slice.ensures c.pending.ensures c.free_room-free.ensures) c.in-Load.ensures

pub returns-in-Load-clause-turn : goal.returns-in-Load-clause-turn
returns-in-Load-clause-turn c =
    load_so c.args.self.now c.args.cache.now c.args.wants.now
    (may_decide c.args.self.now (hub_of c.self.inside.trail.items c.self.inside.limit (stabilisations_of c.self.inside.unended.each) c.self.inside.clients c.self.inside.pages) c.args.who c.args.cache.now c.refusal.result c.args.wants.now c.self.view_is c.self.invariant.0 c.requires.owns c.requires.client c.requires.up c.requires.apart c.refusal.ensures c.in_default.not-Some) c.args.calls c.in-Load.page c.commits.result (loading c)
    (c.commits.ensures ∙ ap (λ (h : HubView). commit_count h.trail) c.self.view_is)

pub returns-in-Load-clause-still : goal.returns-in-Load-clause-still
returns-in-Load-clause-still c = nothing_itself c.args.self.now

pub overflow_sub-cap : goal.overflow_sub-cap
overflow_sub-cap c =
    let pending = pending_within c.args.cache.now c.requires.owns.sound in
    let cap = c.cap.ensures ∙ cap_for c.args.who (hub_of c.self.inside.trail.items c.self.inside.limit (stabilisations_of c.self.inside.unended.each) c.self.inside.clients c.self.inside.pages) c.args.cache.now c.requires.client c.self.invariant.0
    (subst (λ (h : HubView). Owns h c.args.cache.now) (sym c.self.view_is) c.requires.owns) (subst (λ (h : HubView). fallen_in h c.args.who ≡ None) (sym c.self.view_is) c.requires.up) in
    let items = ap length (c.as_slice.ensures ∙ c.pending.ensures) in
    omega (arith, pending, cap, items)

pub returns-in-Load-clause-others : goal.returns-in-Load-clause-others
returns-in-Load-clause-others c other apart = kept_itself other c.args.self.now

granted : (c : goal.In_ok-grant-in-Grant) → decision.Grant c.in-Grant.missing ≡ decision_for c.args.self.now.pages c.args.self.now.clients c.args.cache.now.client c.args.wants.now c.args.calls (topped c.args.cache.now (free_in c.args.self.now))
granted c =
    decided_here c.args.self.now c.args.cache.now c.args.who c.self.inside.limit (stabilisations_of c.self.inside.unended.each) c.min-cap.result c.args.calls c.self.inside.trail.items c.self.inside.clients c.self.inside.pages c.args.wants.now (decision.Grant c.in-Grant.missing) c.self.view_is c.requires.client
    (cap_here c.args.self.now c.args.cache.now c.args.who c.self.inside.limit (stabilisations_of c.self.inside.unended.each) c.min-cap.result c.cap.result c.free_room-free.result c.self.inside.trail.items c.self.inside.clients c.self.inside.pages c.as_slice.result.now c.pending.result.now.items c.self.view_is c.requires.client (owning c.args.self.now c.args.cache.now (subst IsSound c.self.view_is c.self.invariant.0) c.requires.owns (ap (fallen_in c.args.self.now) c.requires.client ∙ c.requires.up)) c.min-cap.ensures c.cap.ensures c.as_slice.ensures c.pending.ensures c.free_room-free.ensures) c.in-Grant.ensures

pub returns-in_ok-grant-in-Grant-clause-turn : goal.returns-in_ok-grant-in-Grant-clause-turn
returns-in_ok-grant-in-Grant-clause-turn c =
    c.in_ok-grant-in-Grant.ensures.turn c.args.calls (can_grant c.args.self.now c.args.cache.now c.args.calls c.args.wants.now c.in-Grant.missing (granted c)).1

pending : (c : goal.In_ok-refuse-in-Pending) → decision.Pending c.in-Pending.blockers c.in-Pending.blocked ≡ decision_for c.args.self.now.pages c.args.self.now.clients c.args.cache.now.client c.args.wants.now c.args.calls (topped c.args.cache.now (free_in c.args.self.now))
pending c =
    decided_here c.args.self.now c.args.cache.now c.args.who c.self.inside.limit (stabilisations_of c.self.inside.unended.each) c.min-cap.result c.args.calls c.self.inside.trail.items c.self.inside.clients c.self.inside.pages c.args.wants.now (decision.Pending c.in-Pending.blockers c.in-Pending.blocked) c.self.view_is c.requires.client
    (cap_here c.args.self.now c.args.cache.now c.args.who c.self.inside.limit (stabilisations_of c.self.inside.unended.each) c.min-cap.result c.cap.result c.free_room-free.result c.self.inside.trail.items c.self.inside.clients c.self.inside.pages c.as_slice.result.now c.pending.result.now.items c.self.view_is c.requires.client (owning c.args.self.now c.args.cache.now (subst IsSound c.self.view_is c.self.invariant.0) c.requires.owns (ap (fallen_in c.args.self.now) c.requires.client ∙ c.requires.up)) c.min-cap.ensures c.cap.ensures c.as_slice.ensures c.pending.ensures c.free_room-free.ensures) c.in-Pending.ensures

pub returns-in_ok-refuse-in-Pending-clause-turn : goal.returns-in_ok-refuse-in-Pending-clause-turn
returns-in_ok-refuse-in-Pending-clause-turn c =
    c.in_ok-refuse-in-Pending.ensures.turn c.args.wants.now c.args.calls (Pending c.in-Pending.blockers)
    (pending_so c.args.self.now c.args.cache.now c.args.wants.now
    (may_decide c.args.self.now (hub_of c.self.inside.trail.items c.self.inside.limit (stabilisations_of c.self.inside.unended.each) c.self.inside.clients c.self.inside.pages) c.args.who c.args.cache.now c.refusal.result c.args.wants.now c.self.view_is c.self.invariant.0 c.requires.owns c.requires.client c.requires.up c.requires.apart c.refusal.ensures c.in_default.not-Some)
    c.in-Pending.blocked c.in-Pending.blockers c.args.calls (pending c))

overfull : (c : goal.After-none-in-Full) → decision.Full ≡ decision_for c.args.self.now.pages c.args.self.now.clients c.args.cache.now.client c.args.wants.now c.args.calls (topped c.args.cache.now (free_in c.args.self.now))
overfull c =
    decided_here c.args.self.now c.args.cache.now c.args.who c.self.inside.limit (stabilisations_of c.self.inside.unended.each) c.min-cap.result c.args.calls c.self.inside.trail.items c.self.inside.clients c.self.inside.pages c.args.wants.now (decision.Full) c.self.view_is c.requires.client
    (cap_here c.args.self.now c.args.cache.now c.args.who c.self.inside.limit (stabilisations_of c.self.inside.unended.each) c.min-cap.result c.cap.result c.free_room-free.result c.self.inside.trail.items c.self.inside.clients c.self.inside.pages c.as_slice.result.now c.pending.result.now.items c.self.view_is c.requires.client (owning c.args.self.now c.args.cache.now (subst IsSound c.self.view_is c.self.invariant.0) c.requires.owns (ap (fallen_in c.args.self.now) c.requires.client ∙ c.requires.up)) c.min-cap.ensures c.cap.ensures c.as_slice.ensures c.pending.ensures c.free_room-free.ensures) c.in-Full.ensures

pub refuse-requires-in-Full-clause-refused : goal.refuse-requires-in-Full-clause-refused
refuse-requires-in-Full-clause-refused c = (
  c.args.wants.now,
  c.args.calls,
  TrailFull (entry_count (c.args.self.now.trail ++ as_items (entries_by c.args.cache.now.client c.args.cache.now.pending))),
  subst (λ (asks : List Want). IsRefused c.args.self.now c.args.cache.now c.args.wants.now c.args.calls
      (TrailFull (entry_count (c.args.self.now.trail ++ as_items (entries_by c.args.cache.now.client c.args.cache.now.pending)))) asks) (sym c.none-in-Full.ensures)
      (full_so c.args.self.now c.args.cache.now c.args.wants.now
      (may_decide c.args.self.now (hub_of c.self.inside.trail.items c.self.inside.limit (stabilisations_of c.self.inside.unended.each) c.self.inside.clients c.self.inside.pages) c.args.who c.args.cache.now c.refusal.result c.args.wants.now c.self.view_is c.self.invariant.0 c.requires.owns c.requires.client c.requires.up c.requires.apart c.refusal.ensures c.in_default.not-Some) c.args.calls (overfull c)),
)

full : (c : goal.After-entries) → decision.Full ≡ decision_for c.args.self.now.pages c.args.self.now.clients c.args.cache.now.client c.args.wants.now c.args.calls (topped c.args.cache.now (free_in c.args.self.now))
full c =
    decided_here c.args.self.now c.args.cache.now c.args.who c.self.inside.limit (stabilisations_of c.self.inside.unended.each) c.min-cap.result c.args.calls c.self.inside.trail.items c.self.inside.clients c.self.inside.pages c.args.wants.now (decision.Full) c.self.view_is c.requires.client
    (cap_here c.args.self.now c.args.cache.now c.args.who c.self.inside.limit (stabilisations_of c.self.inside.unended.each) c.min-cap.result c.cap.result c.free_room-free.result c.self.inside.trail.items c.self.inside.clients c.self.inside.pages c.as_slice.result.now c.pending.result.now.items c.self.view_is c.requires.client (owning c.args.self.now c.args.cache.now (subst IsSound c.self.view_is c.self.invariant.0) c.requires.owns (ap (fallen_in c.args.self.now) c.requires.client ∙ c.requires.up)) c.min-cap.ensures c.cap.ensures c.as_slice.ensures c.pending.ensures c.free_room-free.ensures) c.in-Full.ensures

pub returns-in_ok-refuse-in-Full-clause-turn : goal.returns-in_ok-refuse-in-Full-clause-turn
returns-in_ok-refuse-in-Full-clause-turn c =
    let entries : entry_count (c.args.self.now.trail ++ as_items (entries_by c.args.cache.now.client c.args.cache.now.pending)) ≡ c.entries.result =
    ap (λ (who : ℕ). entry_count (c.args.self.now.trail ++ as_items (entries_by who c.args.cache.now.pending))) c.requires.client
    ∙ ap entry_count (sym (c.in_ok-refuse-in-Full.ensures.trail)) ∙ sym (c.entries.ensures.count ∙ ap (λ (h : HubView). entry_count h.trail) c.self-in-Full.view_is) in
    subst (λ (n : ℕ). IsTurn (λ shared own. acquire shared own c.args.wants.now c.args.calls) (TrailFull n) c.args.self.now c.args.cache.now c.refuse-in-Full.new.self c.refuse-in-Full.new.cache)
    entries
    (c.in_ok-refuse-in-Full.ensures.turn c.args.wants.now c.args.calls
    (TrailFull (entry_count (c.args.self.now.trail ++ as_items (entries_by c.args.cache.now.client c.args.cache.now.pending))))
    (subst (λ (asks : List Want). IsRefused c.args.self.now c.args.cache.now c.args.wants.now c.args.calls
    (TrailFull (entry_count (c.args.self.now.trail ++ as_items (entries_by c.args.cache.now.client c.args.cache.now.pending)))) asks) (sym c.none-in-Full.ensures)
    (full_so c.args.self.now c.args.cache.now c.args.wants.now
    (may_decide c.args.self.now (hub_of c.self.inside.trail.items c.self.inside.limit (stabilisations_of c.self.inside.unended.each) c.self.inside.clients c.self.inside.pages) c.args.who c.args.cache.now c.refusal.result c.args.wants.now c.self.view_is c.self.invariant.0 c.requires.owns c.requires.client c.requires.up c.requires.apart c.refusal.ensures c.in_default.not-Some) c.args.calls (full c))))

-- What is refused at once.

pub refuse-requires-clause-refused : goal.refuse-requires-clause-refused
refuse-requires-clause-refused c = (
  c.args.wants.now,
  c.args.calls,
  reply_of c.in-Some.refusal,
  subst (λ (asks : List Want). IsRefused c.args.self.now c.args.cache.now c.args.wants.now c.args.calls (reply_of c.in-Some.refusal) asks) (sym c.none.ensures)
      (at_once_refused c.args.self.now c.args.cache.now c.args.wants.now c.args.calls c.in-Some.refusal
      (whole_at (hub_of c.self.inside.trail.items c.self.inside.limit (stabilisations_of c.self.inside.unended.each) c.self.inside.clients c.self.inside.pages) c.args.self.now c.self.view_is c.self.invariant.0)
      (owning c.args.self.now c.args.cache.now (subst IsSound c.self.view_is c.self.invariant.0) c.requires.owns (ap (fallen_in c.args.self.now) c.requires.client ∙ c.requires.up))
      (ap (gathering_in c.args.self.now) c.requires.client ∙ c.requires.apart)
      (ap (λ (who : ℕ). refused_at_once (part_of c.args.self.now) who (missing_in c.args.self.now.pages c.args.self.now.clients who c.args.wants.now)) c.requires.client
      ∙ sym c.refusal.ensures ∙ ap (option_map reply_of) c.in-Some.is)),
)

pub returns-in-Some-clause-turn : goal.returns-in-Some-clause-turn
returns-in-Some-clause-turn c =
    acquires_refused c.args.self.now c.args.cache.now c.args.wants.now c.args.calls c.in-Some.refusal c.reply.result c.refuse.new.self c.refuse.new.cache c.reply.ensures
    (c.in_ok-refuse.ensures.turn c.args.wants.now c.args.calls (reply_of c.in-Some.refusal)
    (subst (λ (asks : List Want). IsRefused c.args.self.now c.args.cache.now c.args.wants.now c.args.calls (reply_of c.in-Some.refusal) asks) (sym c.none.ensures)
    (at_once_refused c.args.self.now c.args.cache.now c.args.wants.now c.args.calls c.in-Some.refusal
    (whole_at (hub_of c.self.inside.trail.items c.self.inside.limit (stabilisations_of c.self.inside.unended.each) c.self.inside.clients c.self.inside.pages) c.args.self.now c.self.view_is c.self.invariant.0)
    (owning c.args.self.now c.args.cache.now (subst IsSound c.self.view_is c.self.invariant.0) c.requires.owns (ap (fallen_in c.args.self.now) c.requires.client ∙ c.requires.up))
    (ap (gathering_in c.args.self.now) c.requires.client ∙ c.requires.apart)
    (ap (λ (who : ℕ). refused_at_once (part_of c.args.self.now) who (missing_in c.args.self.now.pages c.args.self.now.clients who c.args.wants.now)) c.requires.client
    ∙ sym c.refusal.ensures ∙ ap (option_map reply_of) c.in-Some.is))))
