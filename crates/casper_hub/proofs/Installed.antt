use Rattle.std.proofs.Common.{◌≡◌, ◌≢◌, ◌<◌, ℕ, zero, ◌∙◌, List, [], ◌∷◌, Bool, true, false, cond, not, ◌&&◌, ◌==◌, eqb-true, refl, sym, ap, subst, ⊎_elim, true≢false, Contains, arith}
use Rattle.std.specs.Prelude.{Option, None, Some, IsSome, is_some, is_none, option_map, unwrap_or, find, MatchOption, IfSome}
use Rattle.std.specs.List.{list_any}
use Rattle.std.proofs.lemmas.Bool.{or_parts, cases_eq, ne_eqb}
use Rattle.casper_words.specs.Crew.{IsClient}
use Rattle.casper_words.specs.declared.page.Right.{Right}
use Rattle.casper_words.specs.declared.page.Right.TheVariants as may
use Rattle.casper_words.specs.declared.page.Want.{Want}
use Rattle.casper_trail.specs.Calls.{entries_by}
use Rattle.casper_dir.specs.Rights.{right_at, writer_at}
use Rattle.casper_dir.specs.Holding.{is_in_conflict}
use Rattle.casper_dir.proofs.EqualRights.{writer_holds_to_write}
use Rattle.casper_dir.proofs.HoldersLemmas.{fails_at}
use Rattle.casper_cache.specs.declared.held.Held.{Held}
use Rattle.casper_cache.specs.Holding.{entry_of, right_of, words_of, ArePagesDistinct}
use Rattle.casper_cache.specs.Own as cache
use Rattle.casper_model.proofs.Entries.{contains_cases}
use Rattle.casper_trail.proofs.LinkLists.{contains_there}
use Rattle.casper_hub.specs.HubView.{HubView, PagesView, frame_in, right_in}
use Rattle.casper_hub.specs.Words.{live_value, stored_value, seen_value, AreWords, HeldIsRight, FramesAreRight, CacheIsRight}
use Rattle.casper_hub.specs.Installing.{with_page, with_pages}
use Rattle.casper_hub.specs.Deciding.{stands_in_the_way, is_given}
use Rattle.casper_hub.specs.Asks.{asks_for}
use Rattle.casper_model.specs.Opening.{any_right}
use Rattle.casper_hub.specs.Stages.{CanGrant}
use Rattle.casper_hub.proofs.Whole.{Whole, Owning}
use Rattle.casper_hub.proofs.Giving.{writer_is_client}
use Rattle.casper_hub.proofs.Relying.{seen_plain, same_words}
use Rattle.casper_hub.proofs.Changing.{values_stay}
use Rattle.casper_hub.proofs.Opened.{Begins, begins_owned, covers_owned, writes_owned, unwritten}

-- a page without a right has no entry
no_entry : (page : ℕ) (held : List Held) → is_some (right_of page held) ≡ false → entry_of page held ≡ None
no_entry page held = of_entry (entry_of page held)
  where
    of_entry : (o : Option Held) → is_some (option_map (λ (h : Held). h.right) o) ≡ false → o ≡ None
    of_entry None is = refl
    of_entry (Some entry) is = absurd (true≢false is)

-- an installed page leaves the pages distinct
distinct_with_page : (pages : PagesView) (held : List Held) (want : Want) → ArePagesDistinct held → ArePagesDistinct (with_page pages held want)
distinct_with_page pages held want distinct =
    (elim (is_some (right_of want.page held)) as (λ b. is_some (right_of want.page held) ≡ b →
    ArePagesDistinct (cond b held (record { page = want.page; right = want.right; words = unwrap_or (frame_in pages want.page) [] } ∷ held))) [
      | true ↦ λ _. distinct
      | false ↦ λ is. (no_entry want.page held is, distinct)
    ]) refl

pub distinct_with_pages : (pages : PagesView) (held : List Held) (wants : List Want) → ArePagesDistinct held → ArePagesDistinct (with_pages pages held wants)
distinct_with_pages pages held [] distinct = distinct
distinct_with_pages pages held (want ∷ wants) distinct = distinct_with_pages pages (with_page pages held want) wants (distinct_with_page pages held want distinct)

-- and each page that is held as it is
held_with_page : (pages : PagesView) (held : List Held) (want : Want) (page : ℕ) (entry : Held) → entry_of page held ≡ Some entry → entry_of page (with_page pages held want) ≡ Some entry
held_with_page pages held want page entry found =
    (elim (is_some (right_of want.page held)) as (λ b. is_some (right_of want.page held) ≡ b →
    entry_of page (cond b held (record { page = want.page; right = want.right; words = unwrap_or (frame_in pages want.page) [] } ∷ held)) ≡ Some entry) [
      | true ↦ λ _. found
      | false ↦ λ is.
          (elim (want.page == page) as (λ b. (want.page == page) ≡ b →
          cond b (Some (record { page = want.page; right = want.right; words = unwrap_or (frame_in pages want.page) [] })) (entry_of page held) ≡ Some entry) [
            | true ↦ λ here.
                let absent : entry_of page held ≡ None = subst (λ (q : ℕ). entry_of q held ≡ None) (eqb-true want.page page here) (no_entry want.page held is) in
                cc
            | false ↦ λ _. found
          ]) refl
    ]) refl

held_with_pages : (pages : PagesView) (held : List Held) (wants : List Want) (page : ℕ) (entry : Held) → entry_of page held ≡ Some entry → entry_of page (with_pages pages held wants) ≡ Some entry
held_with_pages pages held [] page entry found = found
held_with_pages pages held (want ∷ wants) page entry found = held_with_pages pages (with_page pages held want) wants page entry (held_with_page pages held want page entry found)

pub right_with_pages : (pages : PagesView) (held : List Held) (wants : List Want) (page : ℕ) (right : Right) → right_of page held ≡ Some right → right_of page (with_pages pages held wants) ≡ Some right
right_with_pages pages held wants page right = of_entry (entry_of page held) refl
  where
    of_entry : (o : Option Held) → entry_of page held ≡ o → option_map (λ (h : Held). h.right) o ≡ Some right → right_of page (with_pages pages held wants) ≡ Some right
    of_entry None found is = cc
    of_entry (Some entry) found is = ap (option_map (λ (h : Held). h.right)) (held_with_pages pages held wants page entry found) ∙ is

-- what is not held once a page is installed was not held before
absent_before : (pages : PagesView) (held : List Held) (want : Want) (page : ℕ) → entry_of page (with_page pages held want) ≡ None → entry_of page held ≡ None
absent_before pages held want page absent = of_entry (entry_of page held) refl
  where
    of_entry : (o : Option Held) → entry_of page held ≡ o → o ≡ None
    of_entry None found = refl
    of_entry (Some entry) found = let still = held_with_page pages held want page entry found in cc

-- the words of held pages are right once a page is installed whose frame is right
right_with_page : (value : ℕ → ℕ → ℕ) (pages : PagesView) (held : List Held) (want : Want)
    → (entry_of want.page held ≡ None → AreWords value want.page (unwrap_or (frame_in pages want.page) [])) → HeldIsRight value held → HeldIsRight value (with_page pages held want)
right_with_page value pages held want framed right page =
    (elim (is_some (right_of want.page held)) as (λ b. is_some (right_of want.page held) ≡ b →
    IfSome (words_of page (cond b held (record { page = want.page; right = want.right; words = unwrap_or (frame_in pages want.page) [] } ∷ held))) (λ words. AreWords value page words)) [
      | true ↦ λ _. right page
      | false ↦ λ is.
          (elim (want.page == page) as (λ b. (want.page == page) ≡ b →
          IfSome (option_map (λ (h : Held). h.words) (cond b (Some (record { page = want.page; right = want.right; words = unwrap_or (frame_in pages want.page) [] })) (entry_of page held)))
          (λ words. AreWords value page words)) [
            | true ↦ λ here. subst (λ (q : ℕ). AreWords value q (unwrap_or (frame_in pages want.page) [])) (eqb-true want.page page here) (framed (no_entry want.page held is))
            | false ↦ λ _. right page
          ]) refl
    ]) refl

right_with_pages_in : (value : ℕ → ℕ → ℕ) (pages : PagesView) (held : List Held) (wants : List Want)
    → ((want : Want) → Contains wants want → entry_of want.page held ≡ None → AreWords value want.page (unwrap_or (frame_in pages want.page) []))
    → HeldIsRight value held → HeldIsRight value (with_pages pages held wants)
right_with_pages_in value pages held [] framed right = right
right_with_pages_in value pages held (want ∷ wants) framed right =
    right_with_pages_in value pages (with_page pages held want) wants
    (λ other inside absent. framed other (contains_there want wants other inside) (absent_before pages held want other.page absent))
    (right_with_page value pages held want (framed want (zero, omega arith, refl)) right)

-- a test that fails on a list fails on each of it
pub fails_in : {X : Type 0} (test : X → Bool) (xs : List X) → list_any test xs ≡ false → (x : X) → Contains xs x → test x ≡ false
fails_in test [] fails x inside = absurd (omega (arith, inside.1))
fails_in test (first ∷ xs) fails x inside =
    let parts = or_parts (test first) (list_any test xs) fails in
    ⊎_elim (λ is. ap test (sym is) ∙ parts.0) (λ later. fails_in test xs parts.1 x later) (contains_cases first xs x inside)

-- what no search finds fails the test
pub not_found_in : {X : Type 0} (test : X → Bool) (xs : List X) → find test xs ≡ None → (x : X) → Contains xs x → test x ≡ false
not_found_in test [] none x inside = absurd (omega (arith, inside.1))
not_found_in test (first ∷ xs) none x inside =
    (elim (test first) as (λ b. test first ≡ b → cond b (Some first) (find test xs) ≡ None → test x ≡ false) [
      | true ↦ λ _ h. cc
      | false ↦ λ is h. ⊎_elim (λ same. ap test (sym same) ∙ is) (λ later. not_found_in test xs h x later) (contains_cases first xs x inside)
    ]) refl none

-- the server has a frame of each missing page
pub missing_framed : (who : ℕ) (hub : HubView) (own : cache.Own) (wants missing : List Want) → CanGrant who hub own wants missing
    → (want : Want) → Contains missing want → IsSome (frame_in hub.pages want.page)
missing_framed who hub own wants missing can want inside =
    of_frame (frame_in hub.pages want.page) (not_found_in (λ (one : Want). is_none (frame_in hub.pages one.page)) missing can.framed want inside)
  where
    of_frame : (o : Option (List ℕ)) → is_none o ≡ false → IsSome o
    of_frame None is = absurd (true≢false is)
    of_frame (Some words) is = refl

-- no other client writes a missing page
pub others_write_not : (who : ℕ) (hub : HubView) (own : cache.Own) (wants missing : List Want) → CanGrant who hub own wants missing
    → (want : Want) → Contains missing want → (other : ℕ) → IsClient other → other ≢ who → right_at hub.pages.rights other want.page ≢ Some may.Write
others_write_not who hub own wants missing can want inside other client differ writes =
    let none : list_any (λ (one : Want). stands_in_the_way hub.pages hub.clients who one other) missing ≡ false =
    fails_at (λ (number : ℕ). list_any (λ (one : Want). stands_in_the_way hub.pages hub.clients who one number) missing) can.unblocked other client in
    let free : stands_in_the_way hub.pages hub.clients who want other ≡ false = fails_in (λ (one : Want). stands_in_the_way hub.pages hub.clients who one other) missing none want inside in
    let parts = or_parts (not (other == who) && is_in_conflict want.right (right_at hub.pages.rights other want.page))
    (is_given hub.pages hub.clients who want.page && asks_for any_right hub.clients who want.page other) free in
    true≢false (sym (in_conflict want.right) ∙ sym (ap (λ o. is_in_conflict want.right o) writes)
    ∙ ap (λ b. not b && is_in_conflict want.right (right_at hub.pages.rights other want.page)) (sym (ne_eqb other who differ)) ∙ parts.0)
  where
    in_conflict : (right : Right) → is_in_conflict right (Some may.Write) ≡ true
    in_conflict may.Read = refl
    in_conflict may.Write = refl

-- so a missing page to which the client has no right has no writer
no_writer_missing : (who : ℕ) (hub : HubView) (own : cache.Own) (wants missing : List Want) → Whole hub → CanGrant who hub own wants missing
    → (want : Want) → Contains missing want → right_at hub.pages.rights who want.page ≡ None → writer_at hub.pages.rights want.page ≡ None
no_writer_missing who hub own wants missing sound can want inside absent = of_writer (writer_at hub.pages.rights want.page) refl
  where
    of_writer : (o : Option ℕ) → writer_at hub.pages.rights want.page ≡ o → o ≡ None
    of_writer None is = refl
    of_writer (Some writer) is =
        let client : IsClient writer = writer_is_client hub.pages.rights want.page writer sound.holders is in
        let writes : right_at hub.pages.rights writer want.page ≡ Some may.Write = (writer_holds_to_write hub.pages.rights want.page writer).0 is in
        absurd (⊎_elim
        (λ (same : writer ≡ who). let nothing : right_at hub.pages.rights writer want.page ≡ None = ap (λ (w : ℕ). right_at hub.pages.rights w want.page) same ∙ absent in
        true≢false (sym (ap is_some writes) ∙ ap is_some nothing))
        (λ (differ : writer ≡ who → ⊥). others_write_not who hub own wants missing can want inside writer client differ writes)
        (cases_eq writer who))

-- a turn begins as well once the missing pages are installed
pub begins_installed : (hub : HubView) (own : cache.Own) (missing : List Want) → Whole hub → Owning hub own
    → Begins own.client hub (record own { held = with_pages hub.pages own.held missing })
begins_installed hub own missing sound owns = record {
  sound = sound;
  live = owns.live;
  up = owns.up;
  cap = owns.cap;
  client = refl;
  covers = record {
    client = owns.client;
    holders = sound.holders;
    frames_count = sound.frames;
    distinct = distinct_with_pages hub.pages own.held missing owns.sound.distinct;
    held_so = λ page right is. right_with_pages hub.pages own.held missing page right ((covers_owned hub own sound owns).held_so page right is);
    framed = λ page is. sound.framed own.client page is;
  };
  room = (begins_owned hub own sound owns).room;
  writes = writes_owned hub own sound owns;
}

-- and the words of the cache are right with them
pub words_installed : (base : List (List ℕ)) (hub : HubView) (own : cache.Own) (wants missing : List Want) → Whole hub → Owning hub own → CanGrant own.client hub own wants missing
    → FramesAreRight base hub → CacheIsRight base hub own → CacheIsRight base hub (record own { held = with_pages hub.pages own.held missing })
words_installed base hub own wants missing sound owns can frames words =
    right_with_pages_in (seen_value base hub own) hub.pages own.held missing installed words
  where
    installed : (want : Want) → Contains missing want → entry_of want.page own.held ≡ None → AreWords (seen_value base hub own) want.page (unwrap_or (frame_in hub.pages want.page) [])
    installed want inside none =
        let absent : right_in hub own.client want.page ≡ None = owns.rights want.page ∙ ap (option_map (λ (h : Held). h.right)) none in
        same_words (live_value base hub) (seen_value base hub own) want.page (unwrap_or (frame_in hub.pages want.page) [])
        (λ word. sym (seen_plain base hub own want.page word owns.up
        ∙ values_stay want.page word (live_value base hub want.page word) (entries_by own.client own.pending)
        (unwritten own.client hub.pages own.pending want.page (writes_owned hub own sound owns) (λ writes. true≢false (sym (ap is_some writes) ∙ ap is_some absent)))))
        (of_frame want.page (frame_in hub.pages want.page) (missing_framed own.client hub own wants missing can want inside)
        (frames want.page (λ writer is. let nobody = no_writer_missing own.client hub own wants missing sound can want inside absent in cc)))
      where
        of_frame : (page : ℕ) (o : Option (List ℕ)) → IsSome o → MatchOption o ((word : ℕ) → word < 512 → live_value base hub page word ≡ stored_value base hub page word) (λ words. AreWords (live_value base hub) page words)
            → AreWords (live_value base hub) page (unwrap_or o [])
        of_frame page None is are = cc
        of_frame page (Some words) is are = are
