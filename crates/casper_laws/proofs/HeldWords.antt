use Rattle.std.proofs.Common.{◌≡◌, ◌≢◌, ◌⊎◌, ℕ, List, [], ◌++◌, true, false, ◌==◌, filter, Contains, refl, sym, ap, ◌∙◌, inl, inr, true≢false, append-nil}
use Rattle.std.specs.Prelude.{Option, None}
use Rattle.std.proofs.lemmas.Bool.{cases_eq, and_from, eq-eqb, false_from_ne_true}
use Rattle.casper_words.specs.declared.page.Right.TheVariants as may
use Rattle.casper_trail.specs.declared.entry.Entry.{Entry}
use Rattle.casper_trail.specs.Value.{is_write, writes_page, value_of}
use Rattle.casper_trail.specs.Parts.{live_entries}
use Rattle.casper_trail.specs.Calls.{entry_by, entries_by}
use Rattle.casper_trail.proofs.Pages.{filter_append, same_values}
use Rattle.casper_model.specs.Client.{Fallen}
use Rattle.casper_model.specs.Held.{allows}
use Rattle.casper_model.specs.Shared.{fallen_at, of_client}
use Rattle.casper_model.specs.State.{State, own_at, start}
use Rattle.casper_model.specs.View.{value_seen, seen_by}
use Rattle.casper_model.specs.Run.{state_after}
use Rattle.casper_model.specs.Rights.{InOrder}
use Rattle.casper_model.specs.LegalHistory.{HasHistory}
use Rattle.casper_model.proofs.Entries.{contains_left, writes_added}
use Rattle.casper_model.proofs.StateHistory.{rights_as_held}
use Rattle.casper_model.proofs.RunHistory.{base_after}
use Rattle.casper_laws.specs.OwnLists.{IsStanding}
use Rattle.casper_laws.specs.RunFacts.{HoldsPage}
use Rattle.casper_laws.specs.HeldWords.{SeesLiveAndOwn, SeesLiveWords, PendingWritesAreAlone, HoldersSeeTheSame, EveryRunKeepsItsArray, EveryRunShowsLiveAndOwn, EveryRunShowsLiveWords, EveryPendingWriteIsAlone, EveryRunShowsHoldersTheSame}
use Rattle.casper_turns.proofs.Lists.{contains_mapped, filter_nothing}
use Rattle.casper_laws.proofs.RunFacts.{good_standing, every_run_history}

-- who stands has not fallen, and sees the live entries and its own calls
pub up_standing : (state : State) (who : ℕ) → IsStanding state who → fallen_at state.shared who ≡ None
up_standing state who stands = ap (of_client None (λ client. client.fallen)) stands.1 ∙ stands.2

pub sees_as : (state : State) (who page word : ℕ) → (own_at state who).who ≡ who → (fallen : Option Fallen) → fallen_at state.shared who ≡ fallen
    → value_seen state who page word ≡ value_of state.base (seen_by state.shared fallen ++ entries_by who (own_at state who).pending) page word
sees_as state who page word named fallen is =
    let calls = (own_at state who).pending in
    ap (λ number. value_of state.base (seen_by state.shared (fallen_at state.shared number) ++ entries_by number calls) page word) named
    ∙ ap (λ one. value_of state.base (seen_by state.shared one ++ entries_by who calls) page word) is

pub sees_own : (state : State) (who page word : ℕ) → (own_at state who).who ≡ who → IsStanding state who
    → value_seen state who page word ≡ value_of state.base (live_entries state.shared.trail ++ entries_by who (own_at state who).pending) page word
sees_own state who page word named stands = sees_as state who page word named None (up_standing state who stands)

pub sees_live_and_own : (state : State) → InOrder state → SeesLiveAndOwn state
sees_live_and_own state order who page word stands = sees_own state who page word (order.shaped.numbers who) stands

-- writes of other pages leave the words of a page
pub words_before : (base : List (List ℕ)) (before more : List Entry) (page word : ℕ) → ((entry : Entry) → Contains more entry → writes_page page entry ≡ true → ⊥)
    → value_of base (before ++ more) page word ≡ value_of base before page word
words_before base before more page word elsewhere =
    same_values base (before ++ more) before page word
    (filter_append (writes_page page) before more
    ∙ ap (λ back. filter (writes_page page) before ++ back) (filter_nothing (writes_page page) more elsewhere)
    ∙ append-nil (filter (writes_page page) before))

-- a pending write is on a page that its client may write
pending_may_write : (state : State) (who page : ℕ) (entry : Entry) → HasHistory state → IsStanding state who
    → Contains (entries_by who (own_at state who).pending) entry → writes_page page entry ≡ true → allows (own_at state who).held page may.Write ≡ true
pending_may_write state who page entry has stands inside writes =
    let own = own_at state who in
    (writes_added who own.held own.pending [] (good_standing state who has stands).held entry page (contains_left (entries_by who own.pending) [] entry inside) writes).1

pub sees_live_words : (state : State) → HasHistory state → SeesLiveWords state
sees_live_words state has who page word stands reads =
    sees_live_and_own state has.order who page word stands
    ∙ words_before state.base (live_entries state.shared.trail) (entries_by who (own_at state who).pending) page word
    (λ entry inside writes. true≢false (sym (pending_may_write state who page entry has stands inside writes) ∙ reads))

-- who may write a page alone holds it
pub writer_is_alone : (state : State) (who other page : ℕ) → InOrder state → IsStanding state who → allows (own_at state who).held page may.Write ≡ true
    → HoldsPage state other page → who ≡ other
writer_is_alone state who other page order stands writes holds =
    order.rights.exclusive who other page (rights_as_held state who stands.0 order stands.1 stands.2 page may.Write ∙ writes)
    (rights_as_held state other holds.0.0 order holds.0.1 holds.0.2 page may.Read ∙ holds.1)

pending_writes_are_alone : (state : State) → HasHistory state → PendingWritesAreAlone state
pending_writes_are_alone state has who other call stands inside writes holds =
    sym (writer_is_alone state who other call.page has.order stands
    (pending_may_write state who call.page (entry_by who call) has stands (contains_mapped (entry_by who) (own_at state who).pending call inside)
    (and_from (is_write call.op) (call.page == call.page) writes (eq-eqb call.page call.page refl))) holds)

-- two holders of a page read it both, or are one
holders_see_the_same : (state : State) → HasHistory state → HoldersSeeTheSame state
holders_see_the_same state has one other page word holds also = by_number (cases_eq one other)
  where
    reads : (who number : ℕ) → who ≢ number → HoldsPage state who page → HoldsPage state number page → allows (own_at state who).held page may.Write ≡ false
    reads who number apart stands others =
        false_from_ne_true (allows (own_at state who).held page may.Write)
        (λ writes. apart (writer_is_alone state who number page has.order stands.0 writes others))

    by_number : (one ≡ other) ⊎ (one ≢ other) → value_seen state one page word ≡ value_seen state other page word
    by_number (inl same) = ap (λ who. value_seen state who page word) same
    by_number (inr apart) =
        sees_live_words state has one page word holds.0 (reads one other apart holds also)
        ∙ sym (sees_live_words state has other page word also.0 (reads other one (λ same. apart (sym same)) also holds))

pub every_run_array : EveryRunKeepsItsArray
every_run_array vault pages limit capacity happenings = base_after (start vault pages limit capacity) happenings

pub every_run_live_and_own : EveryRunShowsLiveAndOwn
every_run_live_and_own vault pages limit capacity happenings named =
    sees_live_and_own (state_after (start vault pages limit capacity) happenings) (every_run_history vault pages limit capacity happenings named).order

pub every_run_live_words : EveryRunShowsLiveWords
every_run_live_words vault pages limit capacity happenings named =
    sees_live_words (state_after (start vault pages limit capacity) happenings) (every_run_history vault pages limit capacity happenings named)

pub every_pending_write : EveryPendingWriteIsAlone
every_pending_write vault pages limit capacity happenings named =
    pending_writes_are_alone (state_after (start vault pages limit capacity) happenings) (every_run_history vault pages limit capacity happenings named)

pub every_run_holders : EveryRunShowsHoldersTheSame
every_run_holders vault pages limit capacity happenings named =
    holders_see_the_same (state_after (start vault pages limit capacity) happenings) (every_run_history vault pages limit capacity happenings named)
