use Rattle.std.proofs.Common.{◌≡◌, ◌≢◌, ◌⊎◌, ◌≤◌, ℕ, List, [], ◌++◌, true, length, Contains, refl, sym, ap, ◌∙◌, subst, ⊎_elim, inl, inr, arith, true≢false}
use Rattle.std.specs.Prelude.{Option, None, Some, is_some}
use Rattle.std.specs.List.{list_any}
use Rattle.std.proofs.lemmas.Bool.{cases_eq}
use Rattle.casper_words.specs.Crew.{IsClient, has_member}
use Rattle.casper_words.specs.declared.page.Right.{Right}
use Rattle.casper_words.specs.declared.page.Right.TheVariants as may
use Rattle.casper_trail.specs.declared.entry.Entry.{Entry}
use Rattle.casper_trail.specs.Association.{association_of}
use Rattle.casper_trail.specs.Calls.{entries_by, calls_of}
use Rattle.casper_trail.specs.GrowthLaws.{WritersAreWith}
use Rattle.casper_trail.specs.Legal.{IsLegal, AreRightAfter}
use Rattle.casper_trail.specs.Parts.{as_items, open_entries, live_entries}
use Rattle.casper_trail.specs.Value.{value_of, writes_page}
use Rattle.casper_trail.proofs.CallLists.{clients_of_more, clients_of_calls}
use Rattle.casper_trail.proofs.Parts.{open_of_more_entries, live_of_more_entries}
use Rattle.casper_trail.proofs.Rounds.{association_holds_its_client}
use Rattle.casper_model.specs.Client.{Client, Fallen}
use Rattle.casper_model.specs.Growth.{AddsOwn}
use Rattle.casper_model.specs.Held.{allows, is_of}
use Rattle.casper_model.specs.Own.{Own}
use Rattle.casper_model.specs.Rights.{Agrees, AgreesUnlessFallen, TurnStands, TurnKeeps}
use Rattle.casper_model.specs.Room.{most_cap}
use Rattle.casper_model.specs.RoomLaw.{IsWithin}
use Rattle.casper_model.specs.Shared.{Shared, client_at, of_client, rights_at, fallen_at, is_live}
use Rattle.casper_model.proofs.Conflicts.{client_that_holds}
use Rattle.casper_model.proofs.Entries.{added_by, contains_append, contains_left, writes_added, writers_with_more, writers_with_touch}
use Rattle.casper_model.proofs.ExactRuns.{exact_with_own}
use Rattle.casper_model.proofs.FallRuns.{marked_kept, fallen_recorded}
use Rattle.casper_model.proofs.TurnHistory.{Records, legal_recorded}
use Rattle.casper_turns.specs.KeepsClient.{KeepsClient}
use Rattle.casper_turns.specs.Good.{CapsAreFew, WritersAreWithHolders, FallenHaveNothing, IsGoodShared, IsGoodWith, MayRecord}
use Rattle.casper_turns.specs.Kept.{KeptByTurn, OthersStay}
use Rattle.casper_turns.proofs.Compose.{known_by_agreement}
use Rattle.casper_turns.proofs.Falls.{falls_kept}
use Rattle.casper_turns.proofs.FrozenChanges.{StaysFrozen, held_by_agreement}
use Rattle.casper_turns.proofs.Lists.{nothing_in, not_some}
use Rattle.casper_turns.proofs.NotedMembers.{NotesNoMore, members_by_own}
use Rattle.casper_turns.proofs.NotedUp.{up_still}
use Rattle.casper_turns.proofs.Others.{words_before, added_split, calls_with_added, apart_known}
use Rattle.casper_turns.proofs.StillLeft.{still_recorded}

-- a live client is some client
pub live_client : (place : Option Client) → is_some place ≡ true → (client : Client) × (place ≡ Some client)
live_client None live = absurd (true≢false (sym live))
live_client (Some client) live = (client, refl)

-- a turn of a live client begins in order
pub stands_good : (shared : Shared) (own : Own) → IsGoodShared shared → IsGoodWith shared own → is_live shared own.who ≡ true → TurnStands shared own
stands_good shared own good mine live =
    let found = live_client (client_at shared own.who) live in
    record { client = found.0; live = found.1; places = good.places; nobody = good.nobody; agrees = mine.agrees; exclusive = good.exclusive }

-- nobody has the number of a client
pub not_nobody : (who : ℕ) → IsClient who → 0 ≢ who
not_nobody who is zero = let positive = is.0 in omega arith

-- a client that is not fallen may record its calls
pub may_record : (shared : Shared) (own : Own) → IsGoodShared shared → IsGoodWith shared own → fallen_at shared own.who ≡ None → MayRecord shared.trail own
may_record shared own good mine up = record {
  held = mine.calls up;
  writers = λ page found. good.writers own.who page (known_by_agreement (client_at shared own.who) own mine.agrees up page may.Read found);
}

-- what is promised to a client is what its own part has
pub cap_of_agreed : (place : Option Client) (own : Own) (client : Client) → Agrees place own → place ≡ Some client → client.cap ≡ own.cap
cap_of_agreed place own client agrees live = by_fallen client.fallen (subst (λ one. Agrees one own) live agrees)
  where
    by_fallen : (fallen : Option Fallen) → AgreesUnlessFallen client own fallen → client.cap ≡ own.cap
    by_fallen None had = had.0
    by_fallen (Some fallen) had = had.0

-- where the others stay as they are, and the one has no more than the most
pub caps_kept : (shared : Shared) (own : Own) (after : Shared) (own_after : Own) → OthersStay shared own after → Agrees (client_at after own.who) own_after
    → own_after.cap ≤ most_cap → CapsAreFew shared → CapsAreFew after
caps_kept shared own after own_after others agrees most caps who client live =
    ⊎_elim
    (λ same.
    subst (λ (cap : ℕ). cap ≤ most_cap)
    (sym (cap_of_agreed (client_at after own.who) own_after client agrees (ap (client_at after) (sym same) ∙ live))) most)
    (λ apart. caps who client (sym (others who apart) ∙ live)) (cases_eq who own.who)

-- where the others stay as they are, and the one is not fallen
pub bare_kept : (shared : Shared) (own : Own) (after : Shared) (own_after : Own) → TurnKeeps shared own after own_after → FallenHaveNothing shared → FallenHaveNothing after
bare_kept shared own after own_after keeps bare number client fallen live fell =
    ⊎_elim
    (λ same.
    absurd (not_some fallen
    (sym keeps.up ∙ ap (fallen_at after) (sym same) ∙ ap (of_client None (λ (one : Client). one.fallen)) live ∙ fell)))
    (λ apart. bare number client fallen (sym (keeps.others number apart) ∙ live) fell) (cases_eq number own.who)

-- what a client that is not fallen did: its calls and touches are recorded, the others stay, and the stabilisations stay in order
pub record Did (shared : Shared) (own : Own) (after : Shared) (own_after : Own) : Type 0 where
  pub records : Records shared own after own_after
  pub keeps : TurnKeeps shared own after own_after
  pub stays : StaysFrozen shared after
  pub notes : NotesNoMore shared after
  pub within : IsWithin after
  pub most : own.cap ≤ most_cap → own_after.cap ≤ most_cap
  pub limit : after.limit ≡ shared.limit
  pub pages : after.pages ≡ shared.pages
  pub capacity : own_after.capacity ≡ own.capacity

module _ (shared : Shared) (own : Own) (after : Shared) (own_after : Own) (good : IsGoodShared shared) (mine : IsGoodWith shared own)
    (up : fallen_at shared own.who ≡ None) (did : Did shared own after own_after) where
  abbrev added : List Entry
  added = added_by own.who own.pending did.records.wants

  recording : MayRecord shared.trail own
  recording = may_record shared own good mine up

  known : (page : ℕ) (right : Right) → allows own.held page right ≡ true → allows (rights_at shared own.who) page right ≡ true
  known page right = known_by_agreement (client_at shared own.who) own mine.agrees up page right

  -- the writes among what it records are on pages that it may write
  writes : (entry : Entry) (page : ℕ) → Contains added entry → writes_page page entry ≡ true → (entry.who ≡ own.who) × (allows (rights_at shared own.who) page may.Write ≡ true)
  writes entry page inside is =
      let found = writes_added own.who own.held own.pending did.records.wants recording.held entry page inside is in
      (found.0, known page may.Write found.1)

  adds : AddsOwn own.who own.pending shared.trail after.trail
  adds = subst (AddsOwn own.who own.pending shared.trail) (sym (did.records.trail ∙ added_split shared.trail own.who own.pending did.records.wants)) (AddsOwn.touches did.records.wants)

  own_writers : (page : ℕ) → (allows own.held page may.Read ≡ true) ⊎ (list_any (is_of page) did.records.wants ≡ true)
      → WritersAreWith (shared.trail ++ as_items added) page own.who
  own_writers page (inl had) write inside is =
      writers_with_more shared.trail added page own.who mine.client (recording.writers page had)
      (λ entry there also.
      ap (λ who. has_member who (association_of (shared.trail ++ as_items added) own.who)) (writes entry page there also).0
      ∙ association_holds_its_client (shared.trail ++ as_items added) own.who mine.client)
      write inside is
  own_writers page (inr wanted) write inside is =
      ⊎_elim
      (λ old.
      let before : Contains (open_entries (shared.trail ++ as_items (entries_by own.who own.pending))) write =
      subst (λ entries. Contains entries write) (sym (open_of_more_entries shared.trail (entries_by own.who own.pending)))
      (contains_left (open_entries shared.trail) (entries_by own.who own.pending) write old) in
      ap (λ list. has_member write.who (association_of list own.who)) (added_split shared.trail own.who own.pending did.records.wants)
      ∙ writers_with_touch (shared.trail ++ as_items (entries_by own.who own.pending)) own.who did.records.wants page mine.client
      (clients_of_more shared.trail (as_items (entries_by own.who own.pending)) good.exact.clients (clients_of_calls own.who own.pending mine.client)) wanted write before is)
      (λ now.
      ap (λ who. has_member who (association_of (shared.trail ++ as_items added) own.who)) (writes write page now is).0
      ∙ association_holds_its_client (shared.trail ++ as_items added) own.who mine.client)
      (contains_append (open_entries shared.trail) added write (subst (λ entries. Contains entries write) (open_of_more_entries shared.trail added) inside))

  other_writers : (who page : ℕ) → who ≢ own.who → allows (rights_at shared who) page may.Read ≡ true → WritersAreWith (shared.trail ++ as_items added) page who
  other_writers who page apart holds =
      writers_with_more shared.trail added page who (client_that_holds shared good.places good.nobody who page may.Read holds) (good.writers who page holds)
      (λ entry inside is. absurd (apart (sym (good.exclusive own.who who page (writes entry page inside is).1 holds))))

  writers_after : WritersAreWithHolders after
  writers_after who page holds =
      subst (λ trail. WritersAreWith trail page who) (sym did.records.trail)
      (⊎_elim
      (λ same.
      subst (WritersAreWith (shared.trail ++ as_items added) page) (sym same)
      (own_writers page
      (did.records.pages page
      (held_by_agreement (client_at after own.who) own_after did.keeps.agrees page may.Read
      (subst (λ number. allows (rights_at after number) page may.Read ≡ true) same holds)))))
      (λ apart.
      other_writers who page apart
      (sym (ap (λ place. allows (of_client [] (λ client. client.rights) place) page may.Read) (did.keeps.others who apart)) ∙ holds))
      (cases_eq who own.who))

  good_after : IsGoodShared after
  good_after = record {
    places = did.keeps.places;
    nobody = did.keeps.others 0 (not_nobody own.who mine.client) ∙ good.nobody;
    exclusive = did.keeps.exclusive;
    exact = exact_with_own own.who own.pending shared.trail after.trail mine.client good.exact adds;
    writers = writers_after;
    bare = bare_kept shared own after own_after did.keeps good.bare;
    marked = marked_kept shared own after own_after did.keeps (fallen_recorded shared own after own_after did.records) good.marked;
    frozen = did.stays.frozen;
    noted = members_by_own shared after own did.notes adds good.noted;
    unfallen = up_still shared after did.notes (falls_kept shared own after own_after did.keeps) good.unfallen;
    within = did.within;
    caps = caps_kept shared own after own_after did.keeps.others did.keeps.agrees (did.most mine.most) good.caps;
  }

  apart_after : (other : ℕ) → other ≢ own.who → KeepsClient other shared after
  apart_after other apart =
      apart_known other shared after (as_items added) did.records.trail did.limit did.pages
      (ap (λ trail. calls_of trail other) did.records.trail
      ∙ calls_with_added shared.trail own.who own.pending did.records.wants other (λ same. apart (sym same)))
      (did.keeps.others other apart)
      (λ base page word holds.
      ap (λ trail. value_of base (live_entries trail) page word) did.records.trail
      ∙ ap (λ entries. value_of base entries page word) (live_of_more_entries shared.trail added)
      ∙ words_before base (live_entries shared.trail) added page word
      (λ entry inside is. apart (sym (good.exclusive own.who other page (writes entry page inside is).1 holds))))

  pub kept_recorded : KeptByTurn shared own after own_after
  kept_recorded = record {
    who = did.records.who;
    capacity = did.capacity;
    good = good_after;
    mine = record {
      client = subst IsClient (sym did.records.who) mine.client;
      agrees = subst (λ number. Agrees (client_at after number) own_after) (sym did.records.who) did.keeps.agrees;
      room = let none : length own_after.pending ≡ 0 = ap length did.records.pending in omega arith;
      few = let none : length own_after.pending ≡ 0 = ap length did.records.pending in omega arith;
      most = did.most mine.most;
      calls = λ is call inside. absurd (nothing_in call (subst (λ calls. Contains calls call) did.records.pending inside));
    };
    others = apart_after;
    still =
        still_recorded shared after own did.records.wants did.records.trail good.frozen recording (λ page. known page may.Write) did.stays.left;
    right = λ base right. record {
      legal =
          subst (IsLegal base) (sym did.records.trail)
          (legal_recorded base shared.trail own did.records.wants right.legal (record { held = recording.held; right = right.reads up; writers = recording.writers }));
      reads = λ is. subst (λ calls. AreRightAfter base (live_entries after.trail) (entries_by own_after.who calls)) (sym did.records.pending) tt;
    };
  }
