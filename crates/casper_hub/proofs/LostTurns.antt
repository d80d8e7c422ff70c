use Rattle.std.proofs.Common.{◌≡◌, ℕ, List, [], false, cond, ◌==◌, length, map, refl, sym, ap, ◌∙◌, subst, true≢false}
use Rattle.std.specs.Prelude.{Option, None, Some, is_some, option_map}
use Rattle.casper_words.specs.Crew.{IsClient}
use Rattle.casper_words.specs.declared.page.Right.TheVariants as may
use Rattle.casper_trail.proofs.Rounds.{association_holds_its_client}
use Rattle.casper_cache.specs.Own as cache
use Rattle.casper_model.specs.declared.reply.Loss.{Loss}
use Rattle.casper_model.specs.declared.reply.Loss.TheVariants.{Lost, Noted, Already}
use Rattle.casper_model.specs.Both.{Changed, Turned, turned}
use Rattle.casper_model.specs.Client.{Client, Fallen}
use Rattle.casper_model.specs.Frozen.{is_member, stabilisation_of}
use Rattle.casper_model.specs.Held.{allows}
use Rattle.casper_model.specs.Leave.{absent, vanish, vanished_by}
use Rattle.casper_model.specs.Loss.{lose, lose_by, lost_in, loss_of, rolled_back}
use Rattle.casper_model.specs.Shared.{Shared, client_at, fallen_at, of_client, change_stabilisation}
use Rattle.casper_model.specs.Stabilisation.{Stabilisation, is_gathering, with_noted}
use Rattle.casper_turns.specs.Good.{IsGoodShared}
use Rattle.casper_turns.proofs.Lists.{not_some, find_found}
use Rattle.casper_hub.specs.HubView.{HubView, FallenView, fallen_in, right_in}
use Rattle.casper_hub.specs.Losing.{IsLostAtOnce, MayWriteNothing, BecomesAbsent}
use Rattle.casper_hub.specs.Owned.{own_of}
use Rattle.casper_hub.specs.RollingBack.{RollsBack}
use Rattle.casper_hub.specs.Shows.{permits, fallen_of, Shows}
use Rattle.casper_hub.specs.Sound.{IsSound}
use Rattle.casper_hub.specs.Turns.{IsTurn, IsChange}
use Rattle.casper_hub.proofs.Absent.{shows_absent}
use Rattle.casper_hub.proofs.RolledBack.{revoked, shows_rolled_back}
use Rattle.casper_hub.proofs.Showing.{fall_shown, up_shown}
use Rattle.casper_hub.proofs.StandsFor.{stands_for}
use Rattle.casper_hub.proofs.Whole.{permits_same}

-- A hub that a loss leaves stands for what the machine's loss leaves, and so it is as a client vanishes.

-- a client that had fallen is lost already, and nothing changes
pub already_lost : (who : ℕ) (hub : HubView) (fallen : FallenView) → fallen_in hub who ≡ Some fallen → IsChange (λ shared. lose shared who) (Already fallen.mark) hub hub
already_lost who hub fallen fell = record {
  replies = λ shared shows. ap (λ (done : Changed Loss). done.reply) (sym (same shared shows));
  shows = λ shared shows. subst (λ (done : Changed Loss). Shows done.shared hub) (sym (same shared shows)) shows;
}
  where
    same : (shared : Shared) → Shows shared hub → lose shared who ≡ record { reply = Already fallen.mark; shared = shared }
    same shared shows = ap (lose_by shared who) (fall_shown shared hub shows who ∙ ap (option_map (fallen_of hub.trail)) fell)

-- any other is lost with its association, where its loss is carried out at once
pub lost_now : (who unrecorded : ℕ) (hub after : HubView) → IsSound hub → ((shared : Shared) → Shows shared hub → IsLostAtOnce shared who) → RollsBack who hub after
    → IsChange (λ shared. loss_of shared who unrecorded) (Lost (length hub.trail) unrecorded) hub after
lost_now who unrecorded hub after sound at_once rolls = record {
  replies = λ shared shows.
      ap (λ items. Lost (length items) unrecorded) (sym shows.trail) ∙ ap (λ (done : Changed Loss). done.reply) (sym (at_once shared shows unrecorded));
  shows = λ shared shows.
      subst (λ (done : Changed Loss). Shows done.shared after) (sym (at_once shared shows unrecorded)) (shows_rolled_back who hub after rolls sound shared shows);
}

-- the machine finds this stabilisation of a client, and it does not gather
abbrev pub IsHeldIn : HubView → ℕ → Stabilisation → Type 0
IsHeldIn hub who one = (shared : Shared) → Shows shared hub → (stabilisation_of shared who ≡ Some one) × (is_gathering one.phase ≡ false)

-- a hub of which the stabilisations are these
abbrev pub with_stabilisations : List Stabilisation → HubView → HubView
with_stabilisations list hub = record hub { stabilisations = list }

-- the stabilisations once the loss of a client is noted
abbrev pub noted_in : ℕ → Stabilisation → List Stabilisation → List Stabilisation
noted_in who one list = map (λ other. cond (other.lead == one.lead) (with_noted who other) other) list

-- a hub stands for a shared part with other stabilisations where it has them too
pub shows_with : (shared : Shared) (hub : HubView) (list : List Stabilisation) → Shows shared hub → Shows (record shared { stabilisations = list }) (with_stabilisations list hub)
shows_with shared hub list shows = record {
  trail = shows.trail;
  limit = shows.limit;
  pages = shows.pages;
  places = shows.places;
  stabilisations = refl;
  clients = shows.clients;
  rights = shows.rights;
}

-- else its loss is noted
pub noted_now : (who unrecorded : ℕ) (hub : HubView) (one : Stabilisation) → IsHeldIn hub who one
    → IsChange (λ shared. loss_of shared who unrecorded) (Noted one.lead unrecorded) hub (with_stabilisations (noted_in who one hub.stabilisations) hub)
noted_now who unrecorded hub one held = record {
  replies = λ shared shows. ap (λ (done : Changed Loss). done.reply) (sym (same shared shows));
  shows = λ shared shows.
      subst (λ (done : Changed Loss). Shows done.shared (with_stabilisations (noted_in who one hub.stabilisations) hub)) (sym (same shared shows))
      (subst (λ list. Shows (record shared { stabilisations = noted_in who one shared.stabilisations }) (with_stabilisations (noted_in who one list) hub)) shows.stabilisations
      (shows_with shared hub (noted_in who one shared.stabilisations) shows));
}
  where
    at_once : Shared → Changed Loss
    at_once shared = record { reply = Lost (length shared.trail) unrecorded; shared = rolled_back shared who }

    noted : Shared → Changed Loss
    noted shared = record { reply = Noted one.lead unrecorded; shared = change_stabilisation one.lead (with_noted who) shared }

    same : (shared : Shared) → Shows shared hub → loss_of shared who unrecorded ≡ noted shared
    same shared shows = ap (lost_in shared who unrecorded) (held shared shows).0 ∙ ap (λ gathers. cond gathers (at_once shared) (noted shared)) (held shared shows).1

-- who may write a page is a member of no stabilisation but a gathering one
pub writes_nothing : (who : ℕ) (hub : HubView) (one : Stabilisation) → IsSound hub → IsHeldIn hub who one → MayWriteNothing hub who
writes_nothing who hub one sound held page is =
    let stands = stands_for hub sound.stands in
    let this = held stands.shared stands.shows in
    let found = find_found (is_member stands.shared who) stands.shared.stabilisations one this.0 in
    let quiet = stands.good.frozen.quiet one found.0 who page found.1
    (stands.shows.rights who page may.Write ∙ ap (λ right. permits right may.Write) is) in
    true≢false (sym quiet.0 ∙ this.1)

-- the loss of a client that has not fallen is what the machine's loss of it is
pub lost_so : (who : ℕ) (hub after : HubView) (reply : Loss) → fallen_in hub who ≡ None → IsChange (λ shared. loss_of shared who 0) reply hub after
    → IsChange (λ shared. lose shared who) reply hub after
lost_so who hub after reply up change = record {
  replies = λ shared shows. change.replies shared shows ∙ ap (λ (done : Changed Loss). done.reply) (sym (same shared shows));
  shows = λ shared shows. subst (λ (done : Changed Loss). Shows done.shared after) (sym (same shared shows)) (change.shows shared shows);
}
  where
    same : (shared : Shared) → Shows shared hub → lose shared who ≡ loss_of shared who 0
    same shared shows = ap (lose_by shared who) (up_shown shared hub shows who up)

-- a lost client has no right behind its rollback
pub bare_rolled_back : (who : ℕ) (hub after : HubView) → IsSound hub → IsClient who → RollsBack who hub after → (page : ℕ) → right_in after who page ≡ None
bare_rolled_back who hub after sound is rolls page = revoked who hub after rolls sound who page (association_holds_its_client hub.trail who is)

-- and a fallen one has none
pub bare_fallen : (who : ℕ) (hub : HubView) (fallen : FallenView) → IsSound hub → fallen_in hub who ≡ Some fallen → (page : ℕ) → right_in hub who page ≡ None
bare_fallen who hub fallen sound fell page = by_place (client_at shared who) refl
  where
    shared : Shared
    shared = (stands_for hub sound.stands).shared

    shows : Shows shared hub
    shows = (stands_for hub sound.stands).shows

    good : IsGoodShared shared
    good = (stands_for hub sound.stands).good

    has_fallen : fallen_at shared who ≡ Some (fallen_of hub.trail fallen)
    has_fallen = fall_shown shared hub shows who ∙ ap (option_map (fallen_of hub.trail)) fell

    by_place : (place : Option Client) → client_at shared who ≡ place → right_in hub who page ≡ None
    by_place None at = absurd (true≢false (ap is_some (sym has_fallen ∙ ap (of_client None (λ (client : Client). client.fallen)) at)))
    by_place (Some client) at =
        let none : client.rights ≡ [] =
        (good.bare who client (fallen_of hub.trail fallen) at (sym (ap (of_client None (λ (client : Client). client.fallen)) at) ∙ has_fallen)).0 in
        permits_same (right_in hub who page) None
        (λ right.
        sym (shows.rights who page right) ∙ ap (λ place. allows (of_client [] (λ (client : Client). client.rights) place) page right) at
        ∙ ap (λ rights. allows rights page right) none)

-- who has no right may write nothing
pub bare_writes_nothing : (who : ℕ) (hub : HubView) → ((page : ℕ) → right_in hub who page ≡ None) → MayWriteNothing hub who
bare_writes_nothing who hub bare page is = not_some may.Write (sym (bare page) ∙ is)

-- what is left of the cache of a client that vanished
abbrev pub emptied : cache.Own → cache.Own
emptied own = record own { pending = []; held = []; cap = 0 }

-- a client that had fallen vanishes: it is absent, and its mark stands
pub fallen_vanishes : (hub after : HubView) (own : cache.Own) (fallen : FallenView) → IsSound hub → IsClient own.client → fallen_in hub own.client ≡ Some fallen
    → BecomesAbsent own.client hub after → IsTurn vanish (Lost fallen.mark (length own.pending)) hub own after (emptied own)
fallen_vanishes hub after own fallen sound is fell gone = record {
  replies = λ shared shows. ap (λ (turn : Turned Loss). turn.reply) (sym (same shared shows));
  shows = λ shared shows.
      subst (λ (turn : Turned Loss). Shows turn.shared after) (sym (same shared shows))
      (shows_absent own.client hub after gone is sound.formed shared (own_of own) refl shows);
  owns = λ shared shows. refl;
}
  where
    same : (shared : Shared) → Shows shared hub
        → vanish shared (own_of own) ≡ turned (Lost fallen.mark (length own.pending)) (absent (record { shared = shared; own = own_of own }))
    same shared shows =
        ap (λ (fell : Option Fallen). let loss = vanished_by shared (own_of own) fell in turned loss.reply (absent (record { shared = loss.shared; own = own_of own })))
        (fall_shown shared hub shows own.client ∙ ap (option_map (fallen_of hub.trail)) fell)

-- any other vanishes with its loss
pub lost_vanishes : (hub middle after : HubView) (own : cache.Own) (reply : Loss) → IsSound middle → IsClient own.client → fallen_in hub own.client ≡ None
    → IsChange (λ shared. loss_of shared own.client (length own.pending)) reply hub middle → BecomesAbsent own.client middle after
    → IsTurn vanish reply hub own after (emptied own)
lost_vanishes hub middle after own reply sound is up change gone = record {
  replies = λ shared shows. change.replies shared shows ∙ ap (λ (turn : Turned Loss). turn.reply) (sym (same shared shows));
  shows = λ shared shows.
      subst (λ (turn : Turned Loss). Shows turn.shared after) (sym (same shared shows))
      (shows_absent own.client middle after gone is sound.formed (loss_of shared own.client (length own.pending)).shared (own_of own) refl (change.shows shared shows));
  owns = λ shared shows. refl;
}
  where
    same : (shared : Shared) → Shows shared hub
        → vanish shared (own_of own) ≡ (let loss = loss_of shared own.client (length own.pending) in turned loss.reply (absent (record { shared = loss.shared; own = own_of own })))
    same shared shows =
        ap (λ (fell : Option Fallen). let loss = vanished_by shared (own_of own) fell in turned loss.reply (absent (record { shared = loss.shared; own = own_of own })))
        (up_shown shared hub shows own.client up)
