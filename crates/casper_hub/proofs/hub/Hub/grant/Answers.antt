use Rattle.std.proofs.Common.{◌≡◌, ◌<◌, ◌≤◌, ◌∙◌, List, length, sym, ap, subst, Contains}
use Rattle.casper_words.specs.declared.page.Want.{Want}
use Rattle.casper_cache.specs.Own as cache
use Rattle.casper_hub.specs.HubView.{HubView, page_count}
use Rattle.casper_hub.specs.HubFields.{hub_of}
use Rattle.casper_hub.specs.Owned.{Owns}
use Rattle.casper_hub.specs.Deciding.{is_missing}
use Rattle.casper_hub.specs.Given.{Covers}
use Rattle.casper_hub.specs.Installing.{with_pages}
use Rattle.casper_hub.specs.Stages.{CanGrant}
use Rattle.casper_hub.proofs.Passing.{contains_passing}
use Rattle.casper_hub.proofs.Installed.{begins_installed, missing_framed}
use Rattle.std.proofs.Common.{◌+◌, arith}
use Rattle.casper_model.specs.declared.reply.Reply.{Reply}
use Rattle.casper_model.specs.declared.reply.Reply.TheVariants.{Granted}
use Rattle.casper_model.specs.Acquire.{acquire}
use Rattle.casper_model.specs.Both.{Turned}
use Rattle.casper_model.specs.Own as machine
use Rattle.casper_model.specs.Shared.{Shared}
use Rattle.casper_turns.specs.Good.{IsGoodShared}
use Rattle.casper_turns.specs.Kept.{KeptByTurn}
use Rattle.casper_turns.specs.TurnLaws.{IsTurn as MachineTurn}
use Rattle.casper_hub.specs.HubView.{free_in}
use Rattle.casper_hub.specs.Given.{topped}
use Rattle.casper_hub.specs.Owned.{own_of}
use Rattle.casper_hub.specs.Shows.{Shows}
use Rattle.casper_hub.specs.Sound.{IsSound}
use Rattle.casper_hub.specs.Turns.{IsTurn, Acquires}
use Rattle.casper_hub.proofs.ForClient.{cap_for, kept_reserved, nothing_reserved}
use Rattle.casper_hub.proofs.AcquiredHere.{nobody_blocks, room_for}
use Rattle.casper_hub.proofs.GrantedTurns.{grant_turn}
use Rattle.casper_hub.proofs.Granting.{Granting, opened_is_sound, granted_formed, live_granted, granted_cache, granted_few, granted_frames, granted_words}
use Rattle.casper_hub.proofs.MissingStays.{granted_held_is}
use Rattle.casper_hub.proofs.Transport.{kept_by, stands_behind, keeps_others, keeps_still, owns_behind}
use Rattle.casper_hub.proofs.Whole.{whole}
use Rattle.std.specs.Prelude.{None}
use Rattle.casper_trail.specs.declared.item.Item.{Item}
use Rattle.casper_assoc.specs.TrailAssociations.{AreAssociationsOf}
use Rattle.casper_hub.specs.Keeping.{MayBeRecorded}
use Rattle.casper_hub.specs.HubView.{fallen_in, cap_in}
use Rattle.casper_hub.proofs.KeptUp.{room_after, may_record_for}
use Rattle.casper_hub.proofs.ForClient.{owning_for}
use Rattle.casper_hub.proofs.hub.Hub.grant.Goals as goal
use Rattle.std.proofs.Common.{◌≤◌, ◌-◌, ℕ, [], IsSome, refl}
use Rattle.std.specs.Prelude.{slice_set}
use Rattle.casper_dir.specs.Rights.{right_at, conflicts_at}
use Rattle.casper_cache.specs.declared.held.Held.{Held}
use Rattle.casper_cache.specs.Holding.{right_of}
use Rattle.casper_hub.specs.HubView.{place_in, with_asks}
use Rattle.casper_hub.proofs.Grants.{Made, granting_made, fronted_held, room_ready, cap_ready}
use Rattle.casper_trail.specs.TrailView.{entry_count}
use Rattle.casper_hub.proofs.Ready.{Ready, GivesRights, ready_for, installed_sound, missing_held, missing_free, wanted_held, covers_given, rights_given}
use Rattle.casper_gather.specs.UnendedLaws.{stabilisations_of}
use Rattle.casper_frozen.specs.Refused.{refused_at_once}
use Rattle.casper_hub.specs.Deciding.{missing_in}
use Rattle.casper_hub.specs.Stages.{gathering_in, part_of}

pub returns-in_err-reserve-clause-others : goal.returns-in_err-reserve-clause-others
returns-in_err-reserve-clause-others c other differ =
    kept_reserved c.args.self.now c.self.inside.limit (stabilisations_of c.self.inside.unended.each) c.reserve.new.self.items c.self.inside.trail.items c.self.inside.clients c.self.inside.pages c.self.view_is c.reserve.ensures.items other

pub returns-in_err-reserve-clause-still : goal.returns-in_err-reserve-clause-still
returns-in_err-reserve-clause-still c =
    nothing_reserved c.args.self.now c.self.inside.limit (stabilisations_of c.self.inside.unended.each) c.reserve.new.self.items c.self.inside.trail.items c.self.inside.clients c.self.inside.pages c.self.view_is c.reserve.ensures.items

pub returns-in_err-install-clause-others : goal.returns-in_err-install-clause-others
returns-in_err-install-clause-others c other differ =
    kept_reserved c.args.self.now c.self.inside.limit (stabilisations_of c.self.inside.unended.each) c.reserve.new.self.items c.self.inside.trail.items c.self.inside.clients c.self.inside.pages c.self.view_is c.reserve.ensures.items other

pub returns-in_err-install-clause-still : goal.returns-in_err-install-clause-still
returns-in_err-install-clause-still c =
    nothing_reserved c.args.self.now c.self.inside.limit (stabilisations_of c.self.inside.unended.each) c.reserve.new.self.items c.self.inside.trail.items c.self.inside.clients c.self.inside.pages c.self.view_is c.reserve.ensures.items

pub open-requires-clause-cap : goal.open-requires-clause-cap
open-requires-clause-cap c =
    cap_for c.args.who (hub_of c.self.inside.trail.items c.self.inside.limit (stabilisations_of c.self.inside.unended.each) c.self.inside.clients c.self.inside.pages) c.args.cache.now c.requires.client c.self.invariant.0
    (subst (λ (h : HubView). Owns h c.args.cache.now) (sym c.self.view_is) c.requires.owns) (subst (λ (h : HubView). fallen_in h c.args.who ≡ None) (sym c.self.view_is) c.requires.up)
    ∙ sym (ap (λ (o : cache.Own). o.cap) c.in_ok-install.ensures.ok)

pub grant-requires-clause-limit : goal.grant-requires-clause-limit
grant-requires-clause-limit c =
    subst (λ n. entry_count c.open.new.trail.items + length c.as_slice-missing.result.now ≤ n) (sym (c.open.ensures.limit ∙ c.reserve.ensures.limit ∙ c.self.invariant.1.limit))
    (room_ready (hub_of c.self.inside.trail.items c.self.inside.limit (stabilisations_of c.self.inside.unended.each) c.self.inside.clients c.self.inside.pages) c.args.cache.now c.args.wants.now c.as_slice-missing.result.now (hub_of c.open.new.trail.items c.self.inside.limit (stabilisations_of c.self.inside.unended.each) c.open.new.clients c.open.new.pages) c.open.new.cache
    (ready_for c.args.who c.self.inside.limit (stabilisations_of c.self.inside.unended.each) c.args.self.now c.args.cache.now c.install.new.cache c.open.new.cache c.args.wants.now c.args.missing.now c.as_slice-missing.result.now c.reserve.new.self.items c.self.inside.trail.items
    c.self.inside.clients c.self.inside.pages (hub_of c.open.new.trail.items c.self.inside.limit (stabilisations_of c.self.inside.unended.each) c.open.new.clients c.open.new.pages)
    c.self.view_is c.requires.client c.self.invariant.0 c.requires.owns c.requires.up c.requires.grants c.as_slice-missing.ensures.wants c.reserve.ensures.items c.in_ok-install.ensures.ok c.open.ensures.opens))

pub install-requires-clause-pages : goal.install-requires-clause-pages
install-requires-clause-pages c want inside =
    subst (λ (h : HubView). want.page < page_count h) (sym c.self.view_is)
    (c.requires.range want
    (contains_passing (is_missing c.args.self.now.pages c.args.self.now.clients c.args.who) c.args.wants.now want
    (subst (λ (l : List Want). Contains l want) (c.as_slice-missing.ensures.wants ∙ c.requires.grants.missing_is) inside)))

pub install-requires-clause-framed : goal.install-requires-clause-framed
install-requires-clause-framed c want inside =
    missing_framed c.args.who (hub_of c.self.inside.trail.items c.self.inside.limit (stabilisations_of c.self.inside.unended.each) c.self.inside.clients c.self.inside.pages) c.args.cache.now c.args.wants.now c.args.missing.now
    (subst (λ (h : HubView). CanGrant c.args.who h c.args.cache.now c.args.wants.now c.args.missing.now) (sym c.self.view_is) c.requires.grants) want
    (subst (λ (l : List Want). Contains l want) c.as_slice-missing.ensures.wants inside)

pub open-requires-clause-covers : goal.open-requires-clause-covers
open-requires-clause-covers c =
    subst (λ (own : cache.Own). Covers c.args.who c.self.inside.pages own.held) (sym c.in_ok-install.ensures.ok)
    (subst (λ who. Covers who c.self.inside.pages (with_pages c.self.inside.pages c.args.cache.now.held c.as_slice-missing.result.now)) c.requires.client
    (begins_installed (hub_of c.self.inside.trail.items c.self.inside.limit (stabilisations_of c.self.inside.unended.each) c.self.inside.clients c.self.inside.pages) c.args.cache.now c.as_slice-missing.result.now
    (whole (hub_of c.self.inside.trail.items c.self.inside.limit (stabilisations_of c.self.inside.unended.each) c.self.inside.clients c.self.inside.pages) c.self.invariant.0)
    (owning_for c.args.who (hub_of c.self.inside.trail.items c.self.inside.limit (stabilisations_of c.self.inside.unended.each) c.self.inside.clients c.self.inside.pages) c.args.cache.now c.requires.client c.self.invariant.0 (subst (λ (h : HubView). Owns h c.args.cache.now) (sym c.self.view_is) c.requires.owns)
    (subst (λ (h : HubView). fallen_in h c.args.who ≡ None) (sym c.self.view_is) c.requires.up))).covers)

pub grant-requires-clause-pages : goal.grant-requires-clause-pages
grant-requires-clause-pages c want inside =
    subst (λ n. want.page < n) (sym c.open.ensures.opens.gives.rights_count)
    (subst (λ (h : HubView). want.page < page_count h) (sym c.self.view_is)
    (c.requires.range want
    (contains_passing (is_missing c.args.self.now.pages c.args.self.now.clients c.args.who) c.args.wants.now want
    (subst (λ (l : List Want). Contains l want) (c.as_slice-missing.ensures.wants ∙ c.requires.grants.missing_is) inside))))

pub open-requires-clause-own : goal.open-requires-clause-own
open-requires-clause-own c =
    subst (λ (own : cache.Own). cache.IsSound own) (sym c.in_ok-install.ensures.ok)
    (installed_sound (hub_of c.self.inside.trail.items c.self.inside.limit (stabilisations_of c.self.inside.unended.each) c.self.inside.clients c.self.inside.pages) c.args.cache.now c.as_slice-missing.result.now
    (subst (λ (h : HubView). Owns h c.args.cache.now) (sym c.self.view_is) c.requires.owns)
    (subst (λ (l : List Want). length l ≤ 4) (sym c.as_slice-missing.ensures.wants) c.as_slice-missing.ensures.few))

pub grant-requires-clause-held : goal.grant-requires-clause-held
grant-requires-clause-held c want inside =
    missing_held (hub_of c.self.inside.trail.items c.self.inside.limit (stabilisations_of c.self.inside.unended.each) c.self.inside.clients c.self.inside.pages) c.args.cache.now c.args.wants.now c.as_slice-missing.result.now (hub_of c.open.new.trail.items c.self.inside.limit (stabilisations_of c.self.inside.unended.each) c.open.new.clients c.open.new.pages) c.open.new.cache
    (ready_for c.args.who c.self.inside.limit (stabilisations_of c.self.inside.unended.each) c.args.self.now c.args.cache.now c.install.new.cache c.open.new.cache c.args.wants.now c.args.missing.now c.as_slice-missing.result.now c.reserve.new.self.items c.self.inside.trail.items
    c.self.inside.clients c.self.inside.pages (hub_of c.open.new.trail.items c.self.inside.limit (stabilisations_of c.self.inside.unended.each) c.open.new.clients c.open.new.pages)
    c.self.view_is c.requires.client c.self.invariant.0 c.requires.owns c.requires.up c.requires.grants c.as_slice-missing.ensures.wants c.reserve.ensures.items c.in_ok-install.ensures.ok c.open.ensures.opens) want inside

pub grant-requires-clause-free : goal.grant-requires-clause-free
grant-requires-clause-free c want inside =
    subst (λ (w : ℕ). conflicts_at c.open.new.pages.rights want.page w want.right ≡ []) c.requires.client
    (missing_free (hub_of c.self.inside.trail.items c.self.inside.limit (stabilisations_of c.self.inside.unended.each) c.self.inside.clients c.self.inside.pages) c.args.cache.now c.args.wants.now c.as_slice-missing.result.now (hub_of c.open.new.trail.items c.self.inside.limit (stabilisations_of c.self.inside.unended.each) c.open.new.clients c.open.new.pages) c.open.new.cache
    (ready_for c.args.who c.self.inside.limit (stabilisations_of c.self.inside.unended.each) c.args.self.now c.args.cache.now c.install.new.cache c.open.new.cache c.args.wants.now c.args.missing.now c.as_slice-missing.result.now c.reserve.new.self.items c.self.inside.trail.items
    c.self.inside.clients c.self.inside.pages (hub_of c.open.new.trail.items c.self.inside.limit (stabilisations_of c.self.inside.unended.each) c.open.new.clients c.open.new.pages)
    c.self.view_is c.requires.client c.self.invariant.0 c.requires.owns c.requires.up c.requires.grants c.as_slice-missing.ensures.wants c.reserve.ensures.items c.in_ok-install.ensures.ok c.open.ensures.opens) want inside)

pub bring_to_front-requires : goal.bring_to_front-requires
bring_to_front-requires c want inside =
    subst (λ (own : cache.Own). IsSome (right_of want.page own.held)) (sym c.allow.ensures.allowed)
    (subst (λ (own : cache.Own). IsSome (right_of want.page own.held)) (sym c.grant.ensures.cache)
    (wanted_held (hub_of c.self.inside.trail.items c.self.inside.limit (stabilisations_of c.self.inside.unended.each) c.self.inside.clients c.self.inside.pages) c.args.cache.now c.args.wants.now c.as_slice-missing.result.now (hub_of c.open.new.trail.items c.self.inside.limit (stabilisations_of c.self.inside.unended.each) c.open.new.clients c.open.new.pages) c.open.new.cache
    (ready_for c.args.who c.self.inside.limit (stabilisations_of c.self.inside.unended.each) c.args.self.now c.args.cache.now c.install.new.cache c.open.new.cache c.args.wants.now c.args.missing.now c.as_slice-missing.result.now c.reserve.new.self.items c.self.inside.trail.items
    c.self.inside.clients c.self.inside.pages (hub_of c.open.new.trail.items c.self.inside.limit (stabilisations_of c.self.inside.unended.each) c.open.new.clients c.open.new.pages)
    c.self.view_is c.requires.client c.self.invariant.0 c.requires.owns c.requires.up c.requires.grants c.as_slice-missing.ensures.wants c.reserve.ensures.items c.in_ok-install.ensures.ok c.open.ensures.opens) want inside))

pub shrink-requires-clause-covers : goal.shrink-requires-clause-covers
shrink-requires-clause-covers c =
    subst (λ (w : ℕ). Covers w c.grant.new.pages c.bring_to_front.new.cache.held) c.requires.client
    (subst (λ (l : List Held). Covers c.args.cache.now.client c.grant.new.pages l) (sym (fronted_held c.open.new.cache c.grant.new.cache c.allow.new.self c.bring_to_front.new.cache c.as_slice-missing.result.now c.args.wants.now (c.cap.result - length c.as_slice-missing.result.now) c.grant.ensures.cache c.allow.ensures.allowed c.bring_to_front.ensures))
    (covers_given (hub_of c.self.inside.trail.items c.self.inside.limit (stabilisations_of c.self.inside.unended.each) c.self.inside.clients c.self.inside.pages) c.args.cache.now c.args.wants.now c.as_slice-missing.result.now (hub_of c.open.new.trail.items c.self.inside.limit (stabilisations_of c.self.inside.unended.each) c.open.new.clients c.open.new.pages) c.open.new.cache c.grant.new.pages
    (ready_for c.args.who c.self.inside.limit (stabilisations_of c.self.inside.unended.each) c.args.self.now c.args.cache.now c.install.new.cache c.open.new.cache c.args.wants.now c.args.missing.now c.as_slice-missing.result.now c.reserve.new.self.items c.self.inside.trail.items
    c.self.inside.clients c.self.inside.pages (hub_of c.open.new.trail.items c.self.inside.limit (stabilisations_of c.self.inside.unended.each) c.open.new.clients c.open.new.pages)
    c.self.view_is c.requires.client c.self.invariant.0 c.requires.owns c.requires.up c.requires.grants c.as_slice-missing.ensures.wants c.reserve.ensures.items c.in_ok-install.ensures.ok c.open.ensures.opens)
    (subst (λ (w : ℕ). GivesRights w c.as_slice-missing.result.now c.open.new.pages c.grant.new.pages) (sym c.requires.client)
    record { frames = c.grant.ensures.frames; count = c.grant.ensures.count; rights = c.grant.ensures.rights; holders = c.grant.ensures.holders c.open.ensures.opens.gives.holders })))

pub shrink-requires-clause-all : goal.shrink-requires-clause-all
shrink-requires-clause-all c page =
    subst (λ (w : ℕ). right_at c.grant.new.pages.rights w page ≡ right_of page c.bring_to_front.new.cache.held) c.requires.client
    (rights_given (hub_of c.self.inside.trail.items c.self.inside.limit (stabilisations_of c.self.inside.unended.each) c.self.inside.clients c.self.inside.pages) c.args.cache.now c.args.wants.now c.as_slice-missing.result.now (hub_of c.open.new.trail.items c.self.inside.limit (stabilisations_of c.self.inside.unended.each) c.open.new.clients c.open.new.pages) c.open.new.cache c.grant.new.pages
    (ready_for c.args.who c.self.inside.limit (stabilisations_of c.self.inside.unended.each) c.args.self.now c.args.cache.now c.install.new.cache c.open.new.cache c.args.wants.now c.args.missing.now c.as_slice-missing.result.now c.reserve.new.self.items c.self.inside.trail.items
    c.self.inside.clients c.self.inside.pages (hub_of c.open.new.trail.items c.self.inside.limit (stabilisations_of c.self.inside.unended.each) c.open.new.clients c.open.new.pages)
    c.self.view_is c.requires.client c.self.invariant.0 c.requires.owns c.requires.up c.requires.grants c.as_slice-missing.ensures.wants c.reserve.ensures.items c.in_ok-install.ensures.ok c.open.ensures.opens)
    (subst (λ (w : ℕ). GivesRights w c.as_slice-missing.result.now c.open.new.pages c.grant.new.pages) (sym c.requires.client)
    record { frames = c.grant.ensures.frames; count = c.grant.ensures.count; rights = c.grant.ensures.rights; holders = c.grant.ensures.holders c.open.ensures.opens.gives.holders }) page
    ∙ sym (ap (right_of page) (fronted_held c.open.new.cache c.grant.new.cache c.allow.new.self c.bring_to_front.new.cache c.as_slice-missing.result.now c.args.wants.now (c.cap.result - length c.as_slice-missing.result.now) c.grant.ensures.cache c.allow.ensures.allowed c.bring_to_front.ensures)))

made : (c : goal.After-shrink) → Made c.args.cache.now.client c.args.wants.now c.as_slice-missing.result.now (hub_of c.open.new.trail.items c.self.inside.limit (stabilisations_of c.self.inside.unended.each) c.open.new.clients c.open.new.pages) c.open.new.cache (hub_of c.grant.new.trail.items c.self.inside.limit (stabilisations_of c.self.inside.unended.each) c.set_asks.new.self c.shrink.new.pages) c.shrink.new.cache
made c =
    subst (λ (w : ℕ). Made w c.args.wants.now c.as_slice-missing.result.now (hub_of c.open.new.trail.items c.self.inside.limit (stabilisations_of c.self.inside.unended.each) c.open.new.clients c.open.new.pages) c.open.new.cache (hub_of c.grant.new.trail.items c.self.inside.limit (stabilisations_of c.self.inside.unended.each) c.set_asks.new.self c.shrink.new.pages) c.shrink.new.cache) (sym c.requires.client) record {
      granted = c.grant.new.pages;
      gives_rights = record { frames = c.grant.ensures.frames; count = c.grant.ensures.count; rights = c.grant.ensures.rights; holders = c.grant.ensures.holders c.open.ensures.opens.gives.holders };
      others = c.grant.ensures.others;
      given = c.grant.new.cache;
      given_is = c.grant.ensures.cache;
      cap = (c.cap.result - length c.as_slice-missing.result.now);
      cap_is = ap (λ n. n - length c.as_slice-missing.result.now) c.cap.ensures;
      set = c.set_cap.new.self;
      set_is = c.set_cap.ensures;
      allowed = c.allow.new.self;
      allowed_is = c.allow.ensures.allowed;
      fronted = c.bring_to_front.new.cache;
      fronted_is = c.bring_to_front.ensures;
      gives = c.shrink.ensures.gives;
      all = c.shrink.ensures.all;
      trail = c.grant.ensures.trail;
      clients = c.set_asks.ensures ∙ ap (λ asks. slice_set c.set_cap.new.self c.args.who (with_asks asks (place_in c.set_cap.new.self c.args.who))) c.none.ensures;
      limit = refl;
      stabilisations = refl;
      own_is = c.shrink.ensures.cache;
    }

ready : (c : goal.After-shrink) → Ready (hub_of c.self.inside.trail.items c.self.inside.limit (stabilisations_of c.self.inside.unended.each) c.self.inside.clients c.self.inside.pages) c.args.cache.now c.args.wants.now c.as_slice-missing.result.now (hub_of c.open.new.trail.items c.self.inside.limit (stabilisations_of c.self.inside.unended.each) c.open.new.clients c.open.new.pages) c.open.new.cache
ready c =
    ready_for c.args.who c.self.inside.limit (stabilisations_of c.self.inside.unended.each) c.args.self.now c.args.cache.now c.install.new.cache c.open.new.cache c.args.wants.now c.args.missing.now c.as_slice-missing.result.now c.reserve.new.self.items c.self.inside.trail.items
    c.self.inside.clients c.self.inside.pages (hub_of c.open.new.trail.items c.self.inside.limit (stabilisations_of c.self.inside.unended.each) c.open.new.clients c.open.new.pages)
    c.self.view_is c.requires.client c.self.invariant.0 c.requires.owns c.requires.up c.requires.grants c.as_slice-missing.ensures.wants c.reserve.ensures.items c.in_ok-install.ensures.ok c.open.ensures.opens

-- the hub as it was, and after the turn
abbrev before : goal.After-shrink → HubView
before c = (hub_of c.self.inside.trail.items c.self.inside.limit (stabilisations_of c.self.inside.unended.each) c.self.inside.clients c.self.inside.pages)

abbrev after : goal.After-shrink → HubView
after c = hub_of c.grant.new.trail.items c.self.inside.limit (stabilisations_of c.self.inside.unended.each) c.set_asks.new.self c.shrink.new.pages

turned : (c : goal.After-shrink) → Granting c.args.self.now c.args.cache.now c.args.wants.now c.args.missing.now (after c) c.shrink.new.cache
turned c =
    subst (λ (l : List Want). Granting c.args.self.now c.args.cache.now c.args.wants.now l (after c) c.shrink.new.cache) c.as_slice-missing.ensures.wants
    (subst (λ (h : HubView). Granting h c.args.cache.now c.args.wants.now c.as_slice-missing.result.now (after c) c.shrink.new.cache) c.self.view_is
    (granting_made (before c) c.args.cache.now c.args.wants.now c.as_slice-missing.result.now (hub_of c.open.new.trail.items c.self.inside.limit (stabilisations_of c.self.inside.unended.each) c.open.new.clients c.open.new.pages)
    c.open.new.cache (after c) c.shrink.new.cache (ready c) (made c)))

acquires : (c : goal.After-shrink) (calls : ℕ) → length c.args.missing.now + calls ≤ topped c.args.cache.now (free_in c.args.self.now)
    → Acquires c.args.self.now c.args.cache.now c.args.wants.now calls Granted (after c) c.shrink.new.cache
acquires c calls room =
    let turn = turned c in
    grant_turn c.args.self.now c.args.cache.now c.args.wants.now c.args.missing.now calls (after c) c.shrink.new.cache turn.sound turn.owns
    (ap (gathering_in c.args.self.now) c.requires.client ∙ c.requires.apart)
    (ap (λ (who : ℕ). refused_at_once (part_of c.args.self.now) who (missing_in c.args.self.now.pages c.args.self.now.clients who c.args.wants.now)) c.requires.client ∙ c.requires.free)
    (nobody_blocks c.args.self.now c.args.cache.now c.args.wants.now c.args.missing.now turn.can)
    (room_for c.args.self.now c.args.cache.now c.args.wants.now c.args.missing.now calls turn.can room) turn.can turn.grants
    (opened_is_sound c.args.self.now c.args.cache.now c.args.wants.now c.args.missing.now (after c) c.shrink.new.cache turn)
    (granted_cache c.args.self.now c.args.cache.now c.args.wants.now c.args.missing.now (after c) c.shrink.new.cache turn)
    (granted_held_is c.args.self.now c.args.cache.now c.args.wants.now c.args.missing.now (after c) c.shrink.new.cache turn.sound turn.owns c.requires.wants turn.can turn.grants)

-- the acquire with room for no call
abbrev acquiring : goal.After-shrink → Shared → machine.Own → Turned Reply
acquiring c shared own = acquire shared own c.args.wants.now 0

this : (c : goal.After-shrink) → IsTurn (acquiring c) Granted c.args.self.now c.args.cache.now (after c) c.shrink.new.cache
this c = (acquires c 0 (let room = (turned c).can.room in omega (arith, room))).0

keeps : (c : goal.After-shrink) (shared : Shared) → Shows shared c.args.self.now → IsGoodShared shared
    → KeptByTurn shared (own_of c.args.cache.now) (acquiring c shared (own_of c.args.cache.now)).shared (acquiring c shared (own_of c.args.cache.now)).own
keeps c = kept_by (acquiring c) c.args.self.now c.args.cache.now c.requires.owns (λ shared one live. MachineTurn.acquiring c.args.wants.now 0 live)

sound_after : (c : goal.After-shrink) → IsSound (after c)
sound_after c = record {
  formed = granted_formed c.args.self.now c.args.cache.now c.args.wants.now c.args.missing.now (after c) c.shrink.new.cache (turned c);
  stands = stands_behind (acquiring c) c.args.self.now c.args.cache.now (after c) (this c).shows (keeps c) (turned c).sound.sound.stands;
}

pub invariant_of-self-2 : goal.invariant_of-self-2
invariant_of-self-2 c = (
  sound_after c,
  record {
    limit = c.grant.ensures.limit ∙ c.open.ensures.limit ∙ c.reserve.ensures.limit ∙ c.self.invariant.1.limit;
    associations = subst (AreAssociationsOf c.touch_each.new.self) (sym c.grant.ensures.trail)
        (c.touch_each.ensures.trail c.open.new.trail.items c.open.ensures.clients c.open.ensures.associations);
    pages = c.touch_each.ensures.pages ∙ c.open.ensures.pages_stay ∙ c.self.invariant.1.pages
        ∙ sym (c.shrink.ensures.gives.rights_count ∙ c.grant.ensures.count ∙ c.open.ensures.opens.gives.rights_count);
    room = room_after c.grant.new.trail.items c.self.inside.limit c.self.inside.unended.each c.set_asks.new.self c.shrink.new.pages
        c.reserve.new.self.room c.open.new.trail.room (length c.args.cache.now.pending) (length c.as_slice-missing.result.now)
        (length c.as_slice.result.now) (sound_after c) c.in_ok-reserve.ensures.ok
        (c.open.ensures.room ∙ ap (λ (o : cache.Own). c.open.new.trail.room + length o.pending) c.in_ok-install.ensures.ok)
        (ap length (c.as_slice.ensures ∙ c.pending.ensures)) c.grant.new.trail.room c.grant.ensures.room;
  },
)

pub returns-clause-turn : goal.returns-clause-turn
returns-clause-turn c calls room = acquires c calls room

pub returns-clause-owned : goal.returns-clause-owned
returns-clause-owned c =
    owns_behind (acquiring c) c.args.self.now c.args.cache.now (after c) (this c).shows (keeps c) (turned c).sound.sound.stands c.shrink.new.cache (this c).owns
    (granted_cache c.args.self.now c.args.cache.now c.args.wants.now c.args.missing.now (after c) c.shrink.new.cache (turned c))
    (granted_few c.args.self.now c.args.cache.now c.args.wants.now c.args.missing.now (after c) c.shrink.new.cache (turned c))
    (live_granted c.args.self.now c.args.cache.now c.args.wants.now c.args.missing.now (after c) c.shrink.new.cache (turned c))

pub returns-clause-frames : goal.returns-clause-frames
returns-clause-frames c base frames words =
    granted_frames base c.args.self.now c.args.cache.now c.args.wants.now c.args.missing.now (after c) c.shrink.new.cache (turned c) frames words

pub returns-clause-words : goal.returns-clause-words
returns-clause-words c base frames words =
    granted_words base c.args.self.now c.args.cache.now c.args.wants.now c.args.missing.now (after c) c.shrink.new.cache (turned c) frames words

pub returns-clause-others : goal.returns-clause-others
returns-clause-others c other differ =
    keeps_others (acquiring c) c.args.self.now c.args.cache.now (after c) (this c).shows (keeps c) other (λ same. differ (same ∙ c.requires.client))

pub returns-clause-still : goal.returns-clause-still
returns-clause-still c = keeps_still (acquiring c) c.args.self.now c.args.cache.now (after c) (this c).shows (keeps c)

pub returns-clause-sound : goal.returns-clause-sound
returns-clause-sound c = sound_after c

pub open-requires-clause-calls : goal.open-requires-clause-calls
open-requires-clause-calls c =
    subst (λ (own : cache.Own). MayBeRecorded c.reserve.new.self.items c.self.inside.pages c.args.who own.pending) (sym c.in_ok-install.ensures.ok)
    (subst (λ (items : List Item). MayBeRecorded items c.self.inside.pages c.args.who c.args.cache.now.pending) (sym c.reserve.ensures.items)
    (may_record_for c.args.who (hub_of c.self.inside.trail.items c.self.inside.limit (stabilisations_of c.self.inside.unended.each) c.self.inside.clients c.self.inside.pages) c.args.cache.now c.requires.client
    (whole (hub_of c.self.inside.trail.items c.self.inside.limit (stabilisations_of c.self.inside.unended.each) c.self.inside.clients c.self.inside.pages) c.self.invariant.0)
    (owning_for c.args.who (hub_of c.self.inside.trail.items c.self.inside.limit (stabilisations_of c.self.inside.unended.each) c.self.inside.clients c.self.inside.pages) c.args.cache.now c.requires.client c.self.invariant.0
    (subst (λ (h : HubView). Owns h c.args.cache.now) (sym c.self.view_is) c.requires.owns) (subst (λ (h : HubView). fallen_in h c.args.who ≡ None) (sym c.self.view_is) c.requires.up))))

pub touch_each-requires : goal.touch_each-requires
touch_each-requires c = record {
  within = λ want inside.
      subst (λ n. want.page < n) (sym (c.open.ensures.pages_stay ∙ c.self.invariant.1.pages))
      (subst (λ (h : HubView). want.page < page_count h) (sym c.self.view_is)
      (c.requires.range want
      (contains_passing (is_missing c.args.self.now.pages c.args.self.now.clients c.args.who) c.args.wants.now want
      (subst (λ (l : List Want). Contains l want) (c.as_slice-missing.ensures.wants ∙ c.requires.grants.missing_is) inside))));
}

pub overflow_sub-cap : goal.overflow_sub-cap
overflow_sub-cap c =
    subst (λ n. length c.as_slice-missing.result.now ≤ n)
    (ap (cap_in (hub_of c.open.new.trail.items c.self.inside.limit (stabilisations_of c.self.inside.unended.each) c.open.new.clients c.open.new.pages)) c.requires.client ∙ sym c.cap.ensures)
    (cap_ready (hub_of c.self.inside.trail.items c.self.inside.limit (stabilisations_of c.self.inside.unended.each) c.self.inside.clients c.self.inside.pages) c.args.cache.now c.args.wants.now c.as_slice-missing.result.now (hub_of c.open.new.trail.items c.self.inside.limit (stabilisations_of c.self.inside.unended.each) c.open.new.clients c.open.new.pages) c.open.new.cache
    (ready_for c.args.who c.self.inside.limit (stabilisations_of c.self.inside.unended.each) c.args.self.now c.args.cache.now c.install.new.cache c.open.new.cache c.args.wants.now c.args.missing.now c.as_slice-missing.result.now c.reserve.new.self.items c.self.inside.trail.items
    c.self.inside.clients c.self.inside.pages (hub_of c.open.new.trail.items c.self.inside.limit (stabilisations_of c.self.inside.unended.each) c.open.new.clients c.open.new.pages)
    c.self.view_is c.requires.client c.self.invariant.0 c.requires.owns c.requires.up c.requires.grants c.as_slice-missing.ensures.wants c.reserve.ensures.items c.in_ok-install.ensures.ok c.open.ensures.opens))
