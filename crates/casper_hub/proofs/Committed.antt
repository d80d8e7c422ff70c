use Rattle.std.proofs.Common.{◌≡◌, ◌<◌, ◌^◌, ◌++◌, ℕ, List, [], ◌∷◌, Bool, true, false, cond, length, refl, sym, ap, ◌∙◌, subst, true≢false, Contains, append-nil}
use Rattle.std.specs.Prelude.{Option, None, Some, IsSome, is_some, option_map, option_and_then}
use Rattle.std.proofs.lemmas.Bool.{false_from_ne_true}
use Rattle.casper_words.specs.Crew.{has_member}
use Rattle.casper_words.specs.declared.page.Right.{Right}
use Rattle.casper_words.specs.declared.page.Right.TheVariants as may
use Rattle.casper_words.specs.declared.page.Want.{Want}
use Rattle.casper_trail.specs.declared.item.Item.{Item}
use Rattle.casper_trail.specs.declared.item.Item.TheVariants as item
use Rattle.casper_trail.specs.declared.mark.Mark.TheVariants.{Commit}
use Rattle.casper_trail.specs.Association.{association_of}
use Rattle.casper_trail.specs.Modified.{is_modified, is_modified_by}
use Rattle.casper_dir.specs.declared.holders.Holders.{Holders}
use Rattle.casper_dir.specs.Rights.{AreAllClients, right_at}
use Rattle.casper_model.specs.declared.outcome.Kept.{Kept}
use Rattle.casper_model.specs.declared.outcome.Kept.TheVariants as kept
use Rattle.casper_model.specs.declared.outcome.Outcome.{Outcome}
use Rattle.casper_gather.specs.FinishLaws.{is_failure}
use Rattle.casper_model.specs.Client.{Client}
use Rattle.casper_model.specs.Finish.{committed, ended}
use Rattle.casper_model.specs.Held.{allows}
use Rattle.casper_model.specs.Shared.{Shared, client_at, rights_at, of_client}
use Rattle.casper_model.specs.Stabilisation.{Stabilisation, is_gathering}
use Rattle.casper_model.proofs.Places.{client_each, length_each}
use Rattle.casper_hub.specs.Committing.{Ends, Commits, but_led_by}
use Rattle.casper_hub.specs.HubView.{HubView, ClientView, PagesView, client_in, right_in, frame_in, asks_of, with_kept}
use Rattle.casper_hub.specs.Shows.{permits, Shows, ShowsClient}
use Rattle.casper_hub.specs.Sound.{IsSound, IsWellFormed, StandsFor}
use Rattle.casper_hub.proofs.FinishedKept.{committed_kept, failed_kept}
use Rattle.casper_hub.proofs.Holders.{holder_is_member}
use Rattle.casper_hub.proofs.KeptUp.{clients_recorded}
use Rattle.casper_hub.proofs.MarkedPages.{frame_of_others, modified_framed}
use Rattle.casper_hub.proofs.ShownAfter.{shown_by_others}
use Rattle.casper_hub.proofs.StandsFor.{stands_for, standing}
use Rattle.casper_hub.proofs.Whole.{marked_sound}

-- A hub of which an association was made stable, or a write-out failed, stands for what the machine leaves, and its parts fit together.

-- a client for which an outcome is kept, if it waits for one
abbrev told : Bool → Kept → Client → Client
told asks outcome client = cond asks (record client { kept = Some outcome }) client

told_shows : (trail : List Item) (asks : Bool) (outcome : Kept) (place : Option Client) (shown : Option ClientView) → ShowsClient trail place shown
    → ShowsClient trail (option_map (told asks outcome) place) (cond asks (with_kept outcome shown) shown)
told_shows trail true outcome None None shows = shows
told_shows trail false outcome None None shows = shows
told_shows trail asks outcome None (Some shown) shows = absurd shows
told_shows trail asks outcome (Some client) None shows = absurd shows
told_shows trail true outcome (Some client) (Some shown) shows = record { cap = shows.cap; asks = shows.asks; kept = refl; fallen = shows.fallen }
told_shows trail false outcome (Some client) (Some shown) shows = shows

told_rights : (asks : Bool) (outcome : Kept) (place : Option Client) (page : ℕ) (right : Right)
    → allows (of_client [] (λ (client : Client). client.rights) (option_map (told asks outcome) place)) page right
    ≡ allows (of_client [] (λ (client : Client). client.rights) place) page right
told_rights true outcome None page right = refl
told_rights false outcome None page right = refl
told_rights true outcome (Some client) page right = refl
told_rights false outcome (Some client) page right = refl

told_asks : (asks : Bool) (outcome : Kept) (place : Option ClientView) → asks_of (cond asks (with_kept outcome place) place) ≡ asks_of place
told_asks true outcome None = refl
told_asks false outcome None = refl
told_asks true outcome (Some client) = refl
told_asks false outcome (Some client) = refl

-- who waits for an outcome is told of it
module _ (one : Stabilisation) (outcome : Kept) (hub after : HubView) (sound : IsSound hub) (more : List Item) (grows : after.trail ≡ hub.trail ++ more)
    (clients : (who : ℕ) → client_in after who ≡ cond (has_member who one.askers) (with_kept outcome (client_in hub who)) (client_in hub who))
    (rights : after.pages.rights ≡ hub.pages.rights) (shared : Shared) (shows : Shows shared hub) where
  place_ended : (who : ℕ) → client_at (ended shared one outcome) who ≡ option_map (told (has_member who one.askers) outcome) (client_at shared who)
  place_ended who = client_each (λ number client. told (has_member number one.askers) outcome client) shared who

  pub places_ended : length (ended shared one outcome).clients ≡ length shared.clients
  places_ended = length_each (λ number client. told (has_member number one.askers) outcome client) shared

  pub ended_shown : (who : ℕ) → ShowsClient after.trail (client_at (ended shared one outcome) who) (client_in after who)
  ended_shown who =
      subst (λ place. ShowsClient after.trail place (client_in after who)) (sym (place_ended who))
      (subst (λ shown. ShowsClient after.trail (option_map (told (has_member who one.askers) outcome) (client_at shared who)) shown) (sym (clients who))
      (told_shows after.trail (has_member who one.askers) outcome (client_at shared who) (client_in hub who)
      (shown_by_others hub after more grows (client_at shared who) (client_in hub who)
      (λ client fallen is fell. marked_sound hub sound who fallen (ap (option_and_then (λ (view : ClientView). view.fallen)) is ∙ fell))
      (shows.clients who))))

  pub ended_rights : (who page : ℕ) (right : Right) → allows (rights_at (ended shared one outcome) who) page right ≡ permits (right_in after who page) right
  ended_rights who page right =
      ap (λ place. allows (of_client [] (λ (client : Client). client.rights) place) page right) (place_ended who)
      ∙ told_rights (has_member who one.askers) outcome (client_at shared who) page right
      ∙ shows.rights who page right ∙ ap (λ (all : List Holders). permits (right_at all who page) right) (sym rights)

  pub ended_asks : (who : ℕ) (ask : Want) → Contains (asks_of (client_in after who)) ask → Contains (asks_of (client_in hub who)) ask
  ended_asks who ask inside =
      subst (λ (asks : List Want). Contains asks ask) (ap asks_of (clients who) ∙ told_asks (has_member who one.askers) outcome (client_in hub who)) inside

-- a write-out failed
module _ (one : Stabilisation) (outcome : Kept) (hub after : HubView) (ends : Ends one outcome hub after) (sound : IsSound hub) where
  grows_not : after.trail ≡ hub.trail ++ []
  grows_not = ends.trail ∙ sym (append-nil hub.trail)

  pub shows_ended : (shared : Shared) → Shows shared hub → Shows (ended shared one outcome) after
  shows_ended shared shows = record {
    trail = shows.trail ∙ sym ends.trail;
    limit = shows.limit ∙ sym ends.limit;
    pages = shows.pages ∙ ap (λ (pages : PagesView). length pages.rights) (sym ends.pages);
    places = places_ended one outcome hub after sound [] grows_not ends.clients (ap (λ (pages : PagesView). pages.rights) ends.pages) shared shows ∙ shows.places;
    stabilisations = ap (but_led_by one.lead) shows.stabilisations ∙ sym ends.stabilisations;
    clients = ended_shown one outcome hub after sound [] grows_not ends.clients (ap (λ (pages : PagesView). pages.rights) ends.pages) shared shows;
    rights = ended_rights one outcome hub after sound [] grows_not ends.clients (ap (λ (pages : PagesView). pages.rights) ends.pages) shared shows;
  }

  formed_ended : IsWellFormed after
  formed_ended = record {
    places = ends.places ∙ sound.formed.places;
    holders = subst (λ (pages : PagesView). AreAllClients pages.rights) (sym ends.pages) sound.formed.holders;
    frames = subst (λ (pages : PagesView). length pages.frames ≡ length pages.rights) (sym ends.pages) sound.formed.frames;
    short = subst (λ (pages : PagesView). length pages.rights < 2 ^ 32) (sym ends.pages) sound.formed.short;
    fits = subst (λ n. n < 2 ^ 32) (sym ends.limit) sound.formed.fits;
    framed = λ who page.
        subst (λ (pages : PagesView). right_at pages.rights who page ≡ Some may.Write → IsSome (frame_in pages page)) (sym ends.pages) (sound.formed.framed who page);
    modified = λ page is.
        subst (λ (pages : PagesView). IsSome (frame_in pages page)) (sym ends.pages)
        (sound.formed.modified page (subst (λ (items : List Item). is_modified items page ≡ true) ends.trail is));
    asked = λ who ask inside.
        subst (λ (pages : PagesView). ask.page < length pages.rights) (sym ends.pages)
        (sound.formed.asked who ask
        (ended_asks one outcome hub after sound [] grows_not ends.clients (ap (λ (pages : PagesView). pages.rights) ends.pages)
        (stands_for hub sound.stands).shared (stands_for hub sound.stands).shows who ask inside));
  }

-- and so the hub is sound
pub failed_sound : (one : Stabilisation) (how : Outcome) (hub after : HubView) → Ends one (kept.Failed how) hub after → IsSound hub → Contains hub.stabilisations one
    → is_gathering one.phase ≡ false → is_failure how ≡ true → one.noted ≡ None → IsSound after
failed_sound one how hub after ends sound there sealed fails none =
    let before = stands_for hub sound.stands in
    let inside : Contains before.shared.stabilisations one = subst (λ (all : List Stabilisation). Contains all one) (sym before.shows.stabilisations) there in record {
      formed = formed_ended one (kept.Failed how) hub after ends sound;
      stands = standing after (record {
        shared = ended before.shared one (kept.Failed how);
        shows = shows_ended one (kept.Failed how) hub after ends sound before.shared before.shows;
        good = (failed_kept before.shared before.good one inside sealed how fails none).good;
      });
    }

-- an association was made stable
module _ (one : Stabilisation) (hub after : HubView) (commits : Commits one hub after) (sound : IsSound hub) where
  abbrev members : List ℕ
  members = association_of hub.trail one.lead

  abbrev mark : Item
  mark = item.Mark (Commit one.lead members)

  pub shows_committed : (shared : Shared) → Shows shared hub → Shows (committed shared one).shared after
  shows_committed shared shows = record {
    trail = ap (λ items. items ++ item.Mark (Commit one.lead (association_of items one.lead)) ∷ []) shows.trail ∙ sym commits.trail;
    limit = shows.limit ∙ sym commits.limit;
    pages = shows.pages ∙ ap length (sym commits.rights);
    places = places_ended one outcome hub after sound (mark ∷ []) commits.trail clients commits.rights shared shows ∙ shows.places;
    stabilisations = ap (but_led_by one.lead) shows.stabilisations ∙ sym commits.stabilisations;
    clients = ended_shown one outcome hub after sound (mark ∷ []) commits.trail clients commits.rights shared shows;
    rights = ended_rights one outcome hub after sound (mark ∷ []) commits.trail clients commits.rights shared shows;
  }
    where
      outcome : Kept
      outcome = kept.Committed (length shared.trail)

      clients : (who : ℕ) → client_in after who ≡ cond (has_member who one.askers) (with_kept (kept.Committed (length shared.trail)) (client_in hub who)) (client_in hub who)
      clients who =
          commits.clients who
          ∙ ap (λ (items : List Item). cond (has_member who one.askers) (with_kept (kept.Committed (length items)) (client_in hub who)) (client_in hub who)) (sym shows.trail)

  module _ (there : Contains hub.stabilisations one) (sealed : is_gathering one.phase ≡ false) where
    before : StandsFor hub
    before = stands_for hub sound.stands

    inside : Contains before.shared.stabilisations one
    inside = subst (λ (all : List Stabilisation). Contains all one) (sym before.shows.stabilisations) there

    -- no member may write a page
    no_writer : (who page : ℕ) → has_member who members ≡ true → right_in hub who page ≡ Some may.Write → ⊥
    no_writer who page member writes =
        true≢false
        (sym (before.good.frozen.quiet one inside who page
        (ap (λ (items : List Item). has_member who (association_of items one.lead)) before.shows.trail ∙ member)
        (before.shows.rights who page may.Write ∙ ap (λ right. permits right may.Write) writes)).0
        ∙ sealed)

    formed_committed : IsWellFormed after
    formed_committed = record {
      places = commits.places ∙ sound.formed.places;
      holders = subst AreAllClients (sym commits.rights) sound.formed.holders;
      frames = commits.frames_count ∙ sound.formed.frames ∙ ap length (sym commits.rights);
      short = subst (λ (rights : List Holders). length rights < 2 ^ 32) (sym commits.rights) sound.formed.short;
      fits = subst (λ n. n < 2 ^ 32) (sym commits.limit) sound.formed.fits;
      framed = λ who page is.
          let had : right_in hub who page ≡ Some may.Write = ap (λ (rights : List Holders). right_at rights who page) (sym commits.rights) ∙ is in
          let others : is_modified_by members hub.trail page ≡ false =
          false_from_ne_true (is_modified_by members hub.trail page)
          (λ modified. no_writer who page (holder_is_member one.lead hub sound who page (ap is_some had) modified) had) in
          frame_of_others hub.trail one.lead (Commit one.lead members) refl hub.pages after.pages commits.frames page others (sound.formed.framed who page had);
      modified = λ page is.
          modified_framed hub.trail one.lead (Commit one.lead members) refl hub.pages after.pages commits.frames (clients_recorded hub sound.stands) sound.formed.modified page
          (subst (λ (items : List Item). is_modified items page ≡ true) commits.trail is);
      asked = λ who ask within.
          subst (λ (rights : List Holders). ask.page < length rights) (sym commits.rights)
          (sound.formed.asked who ask
          (ended_asks one (kept.Committed (length hub.trail)) hub after sound (mark ∷ []) commits.trail commits.clients commits.rights before.shared before.shows who ask within));
    }

    pub committed_sound : IsSound after
    committed_sound = record {
      formed = formed_committed;
      stands = standing after (record {
        shared = (committed before.shared one).shared;
        shows = shows_committed before.shared before.shows;
        good = (committed_kept before.shared before.good one inside sealed).good;
      });
    }
