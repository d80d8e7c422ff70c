use Rattle.std.proofs.Common.{◌≡◌, ◌<◌, ◌^◌, ◌++◌, ℕ, List, [], ◌∷◌, Bool, true, false, not, cond, length, filter, refl, sym, ap, ◌∙◌, subst, true≢false, Contains, arith}
use Rattle.std.specs.Prelude.{Option, None, Some, is_some, option_map, option_and_then}
use Rattle.std.proofs.Math.Seq.{take-append_seam}
use Rattle.std.proofs.lemmas.Bool.{false_from_ne_true}
use Rattle.casper_words.specs.Crew.{has_member}
use Rattle.casper_words.specs.declared.page.Right.{Right}
use Rattle.casper_words.specs.declared.page.Right.TheVariants as may
use Rattle.casper_words.specs.declared.page.Want.{Want}
use Rattle.casper_trail.specs.declared.item.Item.{Item}
use Rattle.casper_trail.specs.declared.item.Item.TheVariants as item
use Rattle.casper_trail.specs.declared.mark.Mark.TheVariants.{Rollback}
use Rattle.casper_trail.specs.Parts.{live_entries}
use Rattle.casper_trail.specs.Association.{association_of}
use Rattle.casper_trail.specs.Modified.{is_modified, is_modified_by}
use Rattle.casper_trail.proofs.Rounds.{member_is_client}
use Rattle.casper_model.specs.Client.{Client, Fallen}
use Rattle.casper_model.specs.Held.{allows}
use Rattle.casper_model.specs.Loss.{dropped_of, rolled_back}
use Rattle.casper_model.specs.Loss as machine
use Rattle.casper_model.specs.Shared.{Shared, client_at, rights_at, of_client}
use Rattle.casper_model.specs.Stabilisation.{Stabilisation}
use Rattle.casper_model.proofs.Places.{client_each, length_each}
use Rattle.casper_hub.specs.HubView.{HubView, ClientView, FallenView, client_in, right_in, asks_of, felled}
use Rattle.casper_hub.specs.RollingBack.{RollsBack, fall_behind}
use Rattle.casper_hub.specs.Shows.{permits, Shows, ShowsClient, ShowsLive}
use Rattle.casper_hub.specs.Sound.{IsSound, IsWellFormed}
use Rattle.casper_hub.proofs.Changing.{same_rights}
use Rattle.casper_hub.proofs.Holders.{holder_is_member}
use Rattle.casper_hub.proofs.KeptUp.{clients_recorded}
use Rattle.casper_hub.proofs.MarkedPages.{frame_of_others, modified_framed}
use Rattle.casper_hub.proofs.ShownAfter.{shown_by_others}
use Rattle.casper_hub.proofs.Whole.{marked_sound}

-- A rolled back hub stands for the machine's rollback, and its parts fit together.

-- a fall after these items, of a client that goes on to see those
abbrev fall_seeing : List Item → ℕ → List Item → Option Fallen
fall_seeing items who seen = Some (record { mark = length items; dropped = dropped_of items who; seen = live_entries seen })

-- a client that falls is shown as it falls
falling_shows : (trail : List Item) (mark : Item) (who : ℕ) (client : Client) (shown : ClientView) → ShowsLive trail client shown
    → ShowsClient (trail ++ mark ∷ []) (Some (machine.fallen_behind trail who client)) (felled (fall_behind trail who) (Some shown))
falling_shows trail mark who client shown shows = record {
  cap = shows.cap;
  asks = refl;
  kept = shows.kept;
  fallen = ap (fall_seeing trail who) (sym (take-append_seam trail (mark ∷ [])));
}

-- the rights of a client of an association that is rolled back
rights_left : (trail : List Item) (who : ℕ) (member : Bool) (place : Option Client) (page : ℕ) (right : Right)
    → allows (of_client [] (λ (client : Client). client.rights) (option_map (λ client. cond member (machine.fallen_behind trail who client) client) place)) page right
    ≡ cond member false (allows (of_client [] (λ (client : Client). client.rights) place) page right)
rights_left trail who true None page right = refl
rights_left trail who false None page right = refl
rights_left trail who true (Some client) page right = refl
rights_left trail who false (Some client) page right = refl

-- the asks that are left were asks before
asks_left : (trail : List Item) (who : ℕ) (member : Bool) (place : Option ClientView) (ask : Want)
    → Contains (asks_of (cond member (felled (fall_behind trail who) place) place)) ask → Contains (asks_of place) ask
asks_left trail who true None ask inside = inside
asks_left trail who false None ask inside = inside
asks_left trail who true (Some client) ask inside = absurd (omega (arith, inside.1))
asks_left trail who false (Some client) ask inside = inside

module _ (lost : ℕ) (hub after : HubView) (rolls : RollsBack lost hub after) (sound : IsSound hub) where
  abbrev members : List ℕ
  members = association_of hub.trail lost

  abbrev mark : Item
  mark = item.Mark (Rollback lost members)

  -- a member has no right, and everybody else those that it had
  pub revoked : (who page : ℕ) → has_member who members ≡ true → right_in after who page ≡ None
  revoked who page is =
      rolls.rights who page (member_is_client hub.trail lost who is) ∙ ap (λ b. cond {A = Option Right} b None (right_in hub who page)) is

  pub not_revoked : (who page : ℕ) → has_member who members ≡ false → right_in after who page ≡ right_in hub who page
  not_revoked who page out =
      same_rights hub.pages.rights after.pages.rights page who sound.formed.holders rolls.holders
      (λ client. rolls.rights who page client ∙ ap (λ b. cond {A = Option Right} b None (right_in hub who page)) out)

  -- each client is shown
  client_shown : (who : ℕ) (member : Bool) (place : Option Client) (shown : Option ClientView)
      → ((client : ClientView) (fallen : FallenView) → shown ≡ Some client → client.fallen ≡ Some fallen → fallen.mark < length hub.trail)
      → ShowsClient hub.trail place shown
      → ShowsClient after.trail (option_map (λ client. cond member (machine.fallen_behind hub.trail who client) client) place)
      (cond member (felled (fall_behind hub.trail who) shown) shown)
  client_shown who true None None marked shows = shows
  client_shown who false None None marked shows = shows
  client_shown who member None (Some shown) marked shows = absurd shows
  client_shown who member (Some client) None marked shows = absurd shows
  client_shown who true (Some client) (Some shown) marked shows =
      subst (λ items. ShowsClient items (Some (machine.fallen_behind hub.trail who client)) (felled (fall_behind hub.trail who) (Some shown))) (sym rolls.trail)
      (falling_shows hub.trail mark who client shown shows)
  client_shown who false (Some client) (Some shown) marked shows = shown_by_others hub after (mark ∷ []) rolls.trail (Some client) (Some shown) marked shows

  -- a client of the machine once the association is rolled back
  place_rolled_back : (shared : Shared) → Shows shared hub → (who : ℕ) → client_at (rolled_back shared lost) who
      ≡ option_map (λ client. cond (has_member who members) (machine.fallen_behind hub.trail who client) client) (client_at shared who)
  place_rolled_back shared shows who =
      client_each (λ number client. cond (has_member number (association_of shared.trail lost)) (machine.fallen_behind shared.trail number client) client) shared who
      ∙ ap (λ items. option_map (λ client. cond (has_member who (association_of items lost)) (machine.fallen_behind items who client) client) (client_at shared who)) shows.trail

  -- so the hub stands for the machine's rollback
  pub shows_rolled_back : (shared : Shared) → Shows shared hub → Shows (rolled_back shared lost) after
  shows_rolled_back shared shows = record {
    trail = ap (λ items. items ++ item.Mark (Rollback lost (association_of items lost)) ∷ []) shows.trail ∙ sym rolls.trail;
    limit = shows.limit ∙ sym rolls.limit;
    pages = shows.pages ∙ sym rolls.pages;
    places = length_each (λ number client. cond (has_member number (association_of shared.trail lost)) (machine.fallen_behind shared.trail number client) client) shared
        ∙ shows.places;
    stabilisations = ap (λ items. filter (λ (one : Stabilisation). not (has_member one.lead (association_of items lost))) shared.stabilisations) shows.trail
        ∙ ap (filter (λ (one : Stabilisation). not (has_member one.lead members))) shows.stabilisations ∙ sym rolls.stabilisations;
    clients = λ who.
        subst (λ place. ShowsClient after.trail place (client_in after who)) (sym (place_rolled_back shared shows who))
        (subst (λ shown. ShowsClient after.trail (option_map (λ client. cond (has_member who members) (machine.fallen_behind hub.trail who client) client) (client_at shared who)) shown)
        (sym (rolls.clients who))
        (client_shown who (has_member who members) (client_at shared who) (client_in hub who)
        (λ client fallen is fell. marked_sound hub sound who fallen (ap (option_and_then (λ (one : ClientView). one.fallen)) is ∙ fell))
        (shows.clients who)));
    rights = λ who page right.
        ap (λ place. allows (of_client [] (λ (client : Client). client.rights) place) page right) (place_rolled_back shared shows who)
        ∙ rights_left hub.trail who (has_member who members) (client_at shared who) page right
        ∙ (elim (has_member who members) as (λ b. has_member who members ≡ b → cond b false (allows (rights_at shared who) page right) ≡ permits (right_in after who page) right) [
          | true ↦ λ is. ap (λ one. permits one right) (sym (revoked who page is))
          | false ↦ λ out. shows.rights who page right ∙ ap (λ one. permits one right) (sym (not_revoked who page out))
        ]) refl;
  }

  -- the parts of the hub fit together
  pub formed_rolled_back : IsWellFormed after
  formed_rolled_back = record {
    places = rolls.places ∙ sound.formed.places;
    holders = rolls.holders;
    frames = rolls.frames_count ∙ sound.formed.frames ∙ sym rolls.pages;
    short = subst (λ n. n < 2 ^ 32) (sym rolls.pages) sound.formed.short;
    fits = subst (λ n. n < 2 ^ 32) (sym rolls.limit) sound.formed.fits;
    framed = λ who page is.
        let out : has_member who members ≡ false = false_from_ne_true (has_member who members) (λ member. true≢false (sym (ap is_some is) ∙ ap is_some (revoked who page member))) in
        let had : right_in hub who page ≡ Some may.Write = sym (not_revoked who page out) ∙ is in
        let others : is_modified_by members hub.trail page ≡ false =
        false_from_ne_true (is_modified_by members hub.trail page) (λ modified. true≢false (sym (holder_is_member lost hub sound who page (ap is_some had) modified) ∙ out)) in
        frame_of_others hub.trail lost (Rollback lost members) refl hub.pages after.pages rolls.frames page others (sound.formed.framed who page had);
    modified = λ page is.
        modified_framed hub.trail lost (Rollback lost members) refl hub.pages after.pages rolls.frames (clients_recorded hub sound.stands) sound.formed.modified page
        (subst (λ (items : List Item). is_modified items page ≡ true) rolls.trail is);
    asked = λ who ask inside.
        subst (λ n. ask.page < n) (sym rolls.pages)
        (sound.formed.asked who ask
        (asks_left hub.trail who (has_member who members) (client_in hub who) ask (subst (λ (o : Option ClientView). Contains (asks_of o) ask) (rolls.clients who) inside)));
  }
