use Rattle.std.proofs.Common.{◌≡◌, ◌<◌, ◌++◌, ◌∙◌, ℕ, List, [], not, Contains, sym, ap, subst, arith}
use Rattle.std.specs.Prelude.{option_map}
use Rattle.casper_words.specs.declared.page.Want.{Want}
use Rattle.casper_trail.specs.Parts.{as_items}
use Rattle.casper_trail.specs.Calls.{entries_by}
use Rattle.casper_trail.specs.TrailView.{entry_count}
use Rattle.casper_assoc.specs.TrailAssociations.{AreAssociationsOf}
use Rattle.casper_cache.specs.Own as cache
use Rattle.casper_model.specs.declared.reply.Reply.TheVariants.{TrailFull, Granted}
use Rattle.casper_model.specs.Acquire.{acquire}
use Rattle.casper_model.proofs.MarkHistory.{contains_kept}
use Rattle.casper_gather.specs.UnendedLaws.{stabilisations_of}
use Rattle.casper_frozen.specs.Refused.{reply_of}
use Rattle.casper_hub.specs.HubFields.{hub_of}
use Rattle.casper_hub.specs.HubView.{HubView, fallen_in, page_count, cap_in}
use Rattle.casper_hub.specs.Owned.{Owns}
use Rattle.casper_hub.specs.Shows.{permits}
use Rattle.casper_hub.specs.Sound.{IsSound}
use Rattle.casper_hub.specs.Turns.{IsTurn, IsRefused, Acquires}
use Rattle.casper_hub.specs.Words.{CacheIsRight}
use Rattle.casper_cache.specs.Holding.{right_of}
use Rattle.casper_hub.proofs.AcquiredHere.{acquires_refused, asks_nothing}
use Rattle.casper_hub.proofs.GatheringAcquired.{nothing_refused, gathered_by, none_refused, refused_then, full_then, nothing_lacking, granted_then, owned_fronted, words_fronted, wanted_held}
use Rattle.casper_hub.proofs.ShownPlaces.{none_at}
use Rattle.casper_hub.proofs.Whole.{owning}
use Rattle.casper_hub.proofs.hub.Hub.acquire_gathering.Goals as goal

pub refuse-requires-clause-refused : goal.refuse-requires-clause-refused
refuse-requires-clause-refused c = (
  [],
  4101,
  TrailFull (entry_count (c.args.self.now.trail ++ as_items (entries_by c.args.cache.now.client c.args.cache.now.pending))),
  subst (λ (asks : List Want). IsRefused c.args.self.now c.args.cache.now [] 4101
      (TrailFull (entry_count (c.args.self.now.trail ++ as_items (entries_by c.args.cache.now.client c.args.cache.now.pending)))) asks) (sym c.none.ensures)
      (nothing_refused c.args.self.now c.args.cache.now (owning c.args.self.now c.args.cache.now (subst IsSound c.self.view_is c.self.invariant.0) c.requires.owns (ap (fallen_in c.args.self.now) c.requires.client ∙ c.requires.up))),
)

pub refusal_of-refusal-requires : goal.refusal_of-refusal-requires
refusal_of-refusal-requires c = record {
  within = λ want inside.
      subst (λ (n : ℕ). want.page < n) (sym (c.self-2.invariant.1.pages ∙ ap page_count c.self-2.view_is ∙ c.in_ok-refuse.ensures.count))
      (c.requires.range want
      (contains_kept (λ (one : Want). not (permits (right_of one.page c.refuse.new.cache.held) one.right)) c.args.wants.now want
      (subst (λ (l : List Want). Contains l want) (c.as_slice.ensures.wants ∙ c.lacking-missing.ensures) inside)).0);
}

pub returns-in-Some-clause-turn : goal.returns-in-Some-clause-turn
returns-in-Some-clause-turn c =
    let gathered = (gathered_by c.args.self.now (hub_of c.self.inside.trail.items c.self.inside.limit (stabilisations_of c.self.inside.unended.each) c.self.inside.clients c.self.inside.pages) c.args.who c.args.cache.now c.refuse.new.self c.refuse.new.cache c.none.result c.self.view_is c.self.invariant.0 c.requires.owns c.requires.client c.requires.up c.requires.gathers c.none.ensures c.in_ok-refuse.ensures.turn c.refuse.ensures.sound c.refuse.ensures.owned c.refuse.ensures.client_after c.in_ok-refuse.ensures.stays_up) in
    acquires_refused c.args.self.now c.args.cache.now c.args.wants.now c.args.calls c.in-Some.refusal c.reply.result c.refuse.new.self c.refuse.new.cache c.reply.ensures
    (c.in_ok-refuse.ensures.turn c.args.wants.now c.args.calls (reply_of c.in-Some.refusal)
    (subst (λ (asks : List Want). IsRefused c.args.self.now c.args.cache.now c.args.wants.now c.args.calls (reply_of c.in-Some.refusal) asks) (sym c.none.ensures)
    (refused_then c.args.self.now c.args.cache.now c.refuse.new.self c.refuse.new.cache gathered.sound gathered.owns gathered.asked gathered.owns_after.sound.distinct c.args.wants.now c.args.calls
    (reply_of c.in-Some.refusal) (asks_nothing c.in-Some.refusal)
    (λ shared shows. (none_refused c.args.self.now c.args.cache.now c.refuse.new.self c.refuse.new.cache c.args.wants.now c.as_slice.result.now c.self-2.inside.unended c.self-2.inside.associations c.args.who c.refusal_of-refusal.result
    gathered c.requires.client (ap (λ (h : HubView). h.stabilisations) c.self-2.view_is) (subst (λ (h : HubView). AreAssociationsOf c.self-2.inside.associations h.trail) c.self-2.view_is c.self-2.invariant.1.associations)
    (c.as_slice.ensures.wants ∙ c.lacking-missing.ensures) c.refusal_of-refusal.ensures.refused) shared shows ∙ ap (option_map reply_of) c.in-Some.is))))

pub returns-then-cap-calls-clause-turn : goal.returns-then-cap-calls-clause-turn
returns-then-cap-calls-clause-turn c =
    let gathered = (gathered_by c.args.self.now (hub_of c.self.inside.trail.items c.self.inside.limit (stabilisations_of c.self.inside.unended.each) c.self.inside.clients c.self.inside.pages) c.args.who c.args.cache.now c.refuse.new.self c.refuse.new.cache c.none.result c.self.view_is c.self.invariant.0 c.requires.owns c.requires.client c.requires.up c.requires.gathers c.none.ensures c.in_ok-refuse.ensures.turn c.refuse.ensures.sound c.refuse.ensures.owned c.refuse.ensures.client_after c.in_ok-refuse.ensures.stays_up) in
    let nothing = nothing_lacking c.args.self.now c.args.cache.now c.refuse.new.self c.refuse.new.cache gathered.sound gathered.owns gathered.asked gathered.owns_after.sound.distinct c.args.wants.now gathered.gathers
    (λ shared shows. (none_refused c.args.self.now c.args.cache.now c.refuse.new.self c.refuse.new.cache c.args.wants.now c.as_slice.result.now c.self-2.inside.unended c.self-2.inside.associations c.args.who c.refusal_of-refusal.result
    gathered c.requires.client (ap (λ (h : HubView). h.stabilisations) c.self-2.view_is) (subst (λ (h : HubView). AreAssociationsOf c.self-2.inside.associations h.trail) c.self-2.view_is c.self-2.invariant.1.associations)
    (c.as_slice.ensures.wants ∙ c.lacking-missing.ensures) c.refusal_of-refusal.ensures.refused) shared shows ∙ ap (option_map reply_of) (none_at c.refusal_of-refusal.result c.in_default.not-Some)) in
    let cap : c.cap.result ≡ c.refuse.new.cache.cap =
    c.cap.ensures ∙ ap (λ (h : HubView). cap_in h c.args.who) c.self-2.view_is ∙ ap (cap_in c.refuse.new.self) (sym c.refuse.ensures.client_after) ∙ gathered.owns_after.cap in
    let few = c.if-cap-calls.true in
    let entries : entry_count c.refuse.new.self.trail ≡ c.entries.result = sym (c.entries.ensures.count ∙ ap (λ (h : HubView). entry_count h.trail) c.self-2.view_is) in
    subst (λ (n : ℕ). IsTurn (λ shared own. acquire shared own c.args.wants.now c.args.calls) (TrailFull n) c.args.self.now c.args.cache.now c.refuse.new.self c.refuse.new.cache) entries
    (c.in_ok-refuse.ensures.turn c.args.wants.now c.args.calls (TrailFull (entry_count c.refuse.new.self.trail))
    (subst (λ (asks : List Want). IsRefused c.args.self.now c.args.cache.now c.args.wants.now c.args.calls (TrailFull (entry_count c.refuse.new.self.trail)) asks) (sym c.none.ensures)
    (full_then c.args.self.now c.args.cache.now c.refuse.new.self c.refuse.new.cache gathered.sound gathered.owns gathered.asked gathered.owns_after.sound.distinct c.args.wants.now c.args.calls
    nothing (omega (arith, cap)))))

pub bring_to_front-requires : goal.bring_to_front-requires
bring_to_front-requires c want inside =
    let gathered = (gathered_by c.args.self.now (hub_of c.self.inside.trail.items c.self.inside.limit (stabilisations_of c.self.inside.unended.each) c.self.inside.clients c.self.inside.pages) c.args.who c.args.cache.now c.refuse.new.self c.refuse.new.cache c.none.result c.self.view_is c.self.invariant.0 c.requires.owns c.requires.client c.requires.up c.requires.gathers c.none.ensures c.in_ok-refuse.ensures.turn c.refuse.ensures.sound c.refuse.ensures.owned c.refuse.ensures.client_after c.in_ok-refuse.ensures.stays_up) in
    let nothing = nothing_lacking c.args.self.now c.args.cache.now c.refuse.new.self c.refuse.new.cache gathered.sound gathered.owns gathered.asked gathered.owns_after.sound.distinct c.args.wants.now gathered.gathers
    (λ shared shows. (none_refused c.args.self.now c.args.cache.now c.refuse.new.self c.refuse.new.cache c.args.wants.now c.as_slice.result.now c.self-2.inside.unended c.self-2.inside.associations c.args.who c.refusal_of-refusal.result
    gathered c.requires.client (ap (λ (h : HubView). h.stabilisations) c.self-2.view_is) (subst (λ (h : HubView). AreAssociationsOf c.self-2.inside.associations h.trail) c.self-2.view_is c.self-2.invariant.1.associations)
    (c.as_slice.ensures.wants ∙ c.lacking-missing.ensures) c.refusal_of-refusal.ensures.refused) shared shows ∙ ap (option_map reply_of) (none_at c.refusal_of-refusal.result c.in_default.not-Some)) in
    wanted_held c.refuse.new.cache.held c.args.wants.now nothing want inside

pub returns-clause-turn : goal.returns-clause-turn
returns-clause-turn c =
    let gathered = (gathered_by c.args.self.now (hub_of c.self.inside.trail.items c.self.inside.limit (stabilisations_of c.self.inside.unended.each) c.self.inside.clients c.self.inside.pages) c.args.who c.args.cache.now c.refuse.new.self c.refuse.new.cache c.none.result c.self.view_is c.self.invariant.0 c.requires.owns c.requires.client c.requires.up c.requires.gathers c.none.ensures c.in_ok-refuse.ensures.turn c.refuse.ensures.sound c.refuse.ensures.owned c.refuse.ensures.client_after c.in_ok-refuse.ensures.stays_up) in
    let nothing = nothing_lacking c.args.self.now c.args.cache.now c.refuse.new.self c.refuse.new.cache gathered.sound gathered.owns gathered.asked gathered.owns_after.sound.distinct c.args.wants.now gathered.gathers
    (λ shared shows. (none_refused c.args.self.now c.args.cache.now c.refuse.new.self c.refuse.new.cache c.args.wants.now c.as_slice.result.now c.self-2.inside.unended c.self-2.inside.associations c.args.who c.refusal_of-refusal.result
    gathered c.requires.client (ap (λ (h : HubView). h.stabilisations) c.self-2.view_is) (subst (λ (h : HubView). AreAssociationsOf c.self-2.inside.associations h.trail) c.self-2.view_is c.self-2.invariant.1.associations)
    (c.as_slice.ensures.wants ∙ c.lacking-missing.ensures) c.refusal_of-refusal.ensures.refused) shared shows ∙ ap (option_map reply_of) (none_at c.refusal_of-refusal.result c.in_default.not-Some)) in
    let cap : c.cap.result ≡ c.refuse.new.cache.cap =
    c.cap.ensures ∙ ap (λ (h : HubView). cap_in h c.args.who) c.self-2.view_is ∙ ap (cap_in c.refuse.new.self) (sym c.refuse.ensures.client_after) ∙ gathered.owns_after.cap in
    subst (λ (o : cache.Own). Acquires c.args.self.now c.args.cache.now c.args.wants.now c.args.calls Granted c.refuse.new.self o) (sym c.bring_to_front.ensures)
    (granted_then c.args.self.now c.args.cache.now c.refuse.new.self c.refuse.new.cache gathered.sound gathered.owns gathered.asked gathered.sound_after gathered.owns_after gathered.same c.args.wants.now
    c.requires.wants nothing c.args.calls (omega (arith, cap)))

pub returns-clause-owned : goal.returns-clause-owned
returns-clause-owned c =
    let gathered = (gathered_by c.args.self.now (hub_of c.self.inside.trail.items c.self.inside.limit (stabilisations_of c.self.inside.unended.each) c.self.inside.clients c.self.inside.pages) c.args.who c.args.cache.now c.refuse.new.self c.refuse.new.cache c.none.result c.self.view_is c.self.invariant.0 c.requires.owns c.requires.client c.requires.up c.requires.gathers c.none.ensures c.in_ok-refuse.ensures.turn c.refuse.ensures.sound c.refuse.ensures.owned c.refuse.ensures.client_after c.in_ok-refuse.ensures.stays_up) in
    let nothing = nothing_lacking c.args.self.now c.args.cache.now c.refuse.new.self c.refuse.new.cache gathered.sound gathered.owns gathered.asked gathered.owns_after.sound.distinct c.args.wants.now gathered.gathers
    (λ shared shows. (none_refused c.args.self.now c.args.cache.now c.refuse.new.self c.refuse.new.cache c.args.wants.now c.as_slice.result.now c.self-2.inside.unended c.self-2.inside.associations c.args.who c.refusal_of-refusal.result
    gathered c.requires.client (ap (λ (h : HubView). h.stabilisations) c.self-2.view_is) (subst (λ (h : HubView). AreAssociationsOf c.self-2.inside.associations h.trail) c.self-2.view_is c.self-2.invariant.1.associations)
    (c.as_slice.ensures.wants ∙ c.lacking-missing.ensures) c.refusal_of-refusal.ensures.refused) shared shows ∙ ap (option_map reply_of) (none_at c.refusal_of-refusal.result c.in_default.not-Some)) in
    let cap : c.cap.result ≡ c.refuse.new.cache.cap =
    c.cap.ensures ∙ ap (λ (h : HubView). cap_in h c.args.who) c.self-2.view_is ∙ ap (cap_in c.refuse.new.self) (sym c.refuse.ensures.client_after) ∙ gathered.owns_after.cap in
    subst (λ (o : cache.Own). Owns c.refuse.new.self o) (sym c.bring_to_front.ensures)
    (owned_fronted c.args.self.now c.args.cache.now c.refuse.new.self c.refuse.new.cache gathered.sound gathered.owns gathered.asked gathered.sound_after gathered.owns_after gathered.same c.args.wants.now
    c.requires.wants nothing c.args.calls (omega (arith, cap)))

pub returns-clause-words : goal.returns-clause-words
returns-clause-words c base frames words =
    let gathered = (gathered_by c.args.self.now (hub_of c.self.inside.trail.items c.self.inside.limit (stabilisations_of c.self.inside.unended.each) c.self.inside.clients c.self.inside.pages) c.args.who c.args.cache.now c.refuse.new.self c.refuse.new.cache c.none.result c.self.view_is c.self.invariant.0 c.requires.owns c.requires.client c.requires.up c.requires.gathers c.none.ensures c.in_ok-refuse.ensures.turn c.refuse.ensures.sound c.refuse.ensures.owned c.refuse.ensures.client_after c.in_ok-refuse.ensures.stays_up) in
    let nothing = nothing_lacking c.args.self.now c.args.cache.now c.refuse.new.self c.refuse.new.cache gathered.sound gathered.owns gathered.asked gathered.owns_after.sound.distinct c.args.wants.now gathered.gathers
    (λ shared shows. (none_refused c.args.self.now c.args.cache.now c.refuse.new.self c.refuse.new.cache c.args.wants.now c.as_slice.result.now c.self-2.inside.unended c.self-2.inside.associations c.args.who c.refusal_of-refusal.result
    gathered c.requires.client (ap (λ (h : HubView). h.stabilisations) c.self-2.view_is) (subst (λ (h : HubView). AreAssociationsOf c.self-2.inside.associations h.trail) c.self-2.view_is c.self-2.invariant.1.associations)
    (c.as_slice.ensures.wants ∙ c.lacking-missing.ensures) c.refusal_of-refusal.ensures.refused) shared shows ∙ ap (option_map reply_of) (none_at c.refusal_of-refusal.result c.in_default.not-Some)) in
    subst (λ (o : cache.Own). CacheIsRight base c.refuse.new.self o) (sym c.bring_to_front.ensures)
    (words_fronted c.args.self.now c.args.cache.now c.refuse.new.self c.refuse.new.cache gathered.sound gathered.owns gathered.asked gathered.sound_after gathered.owns_after gathered.same c.args.wants.now
    c.requires.wants nothing base (c.refuse.ensures.words base frames words))
