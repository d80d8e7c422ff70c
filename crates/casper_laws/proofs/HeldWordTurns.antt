use Rattle.std.proofs.Common.{◌≡◌, ◌≢◌, ◌⊎◌, ℕ, List, [], ◌∷◌, ◌++◌, true, false, fold, get_or-set_other, Contains, refl, sym, ap, ◌∙◌, subst, inl, inr, true≢false, append-nil, append_assoc}
use Rattle.std.specs.Prelude.{Option, None, Some, is_some}
use Rattle.std.proofs.lemmas.Bool.{cases_eq}
use Rattle.std.proofs.lemmas.List.{map-append}
use Rattle.casper_words.specs.Crew.{IsClient, has_member}
use Rattle.casper_words.specs.declared.call.Op.{Op}
use Rattle.casper_words.specs.declared.call.Call.{Call}
use Rattle.casper_words.specs.declared.page.Want.{Want}
use Rattle.casper_trail.specs.declared.entry.Entry.{Entry}
use Rattle.casper_trail.specs.declared.item.Item.{Item}
use Rattle.casper_trail.specs.declared.item.Item.TheVariants as item
use Rattle.casper_trail.specs.declared.mark.Mark.{Mark}
use Rattle.casper_trail.specs.declared.mark.Mark.TheVariants.{Commit, Rollback}
use Rattle.casper_trail.specs.Value.{writes_page, value_after, value_of}
use Rattle.casper_trail.specs.Fate.{members_of}
use Rattle.casper_trail.specs.Parts.{as_items, live_entries}
use Rattle.casper_trail.specs.Calls.{entry_by, entries_by}
use Rattle.casper_trail.specs.Association.{association_of}
use Rattle.casper_trail.specs.Marks.{IsExactMark}
use Rattle.casper_trail.specs.GrowthLaws.{WritersAreWith}
use Rattle.casper_trail.proofs.Growth.{members_together}
use Rattle.casper_trail.proofs.Pages.{value_after_mark}
use Rattle.casper_trail.proofs.Parts.{live_of_more_entries, live_after_commit}
use Rattle.casper_trail.proofs.Values.{value_of_more}
use Rattle.casper_model.specs.Acquire.{touches_by}
use Rattle.casper_model.specs.Client.{Client, Fallen}
use Rattle.casper_model.specs.Hits.{with_call}
use Rattle.casper_model.specs.Own.{Own, blank}
use Rattle.casper_model.specs.Both.{Turned}
use Rattle.casper_model.specs.Shared.{Shared, client_at, fallen_at, is_live}
use Rattle.casper_model.specs.State.{State, own_at, with_own, with_shared, after_turn}
use Rattle.casper_model.specs.View.{view, value_seen, seen_by}
use Rattle.casper_model.specs.LegalHistory.{HasHistory}
use Rattle.casper_model.proofs.Entries.{added_by, writes_added}
use Rattle.casper_model.proofs.OpeningRights.{IsUp}
use Rattle.casper_model.proofs.StateHistory.{Marks, in_owns, set_own}
use Rattle.casper_model.proofs.MarkHistory.{head_of}
use Rattle.casper_model.proofs.StepRights.{stands_at}
use Rattle.casper_model.proofs.TurnRights.{up_as_it_stands}
use Rattle.casper_model.proofs.TurnHistory.{Records}
use Rattle.casper_laws.specs.OwnLists.{IsStanding}
use Rattle.casper_laws.specs.RunFacts.{HoldsPage}
use Rattle.casper_turns.proofs.Lists.{nothing_in}
use Rattle.casper_laws.proofs.RunFacts.{good_standing}
use Rattle.casper_laws.proofs.HeldWords.{up_standing, sees_own, words_before, writer_is_alone}

-- where one own part is set, each other stays
pub own_apart : (state : State) (own : Own) (after : Shared) (number : ℕ) → number ≢ own.who
    → own_at (with_own (with_shared state after) own) number ≡ own_at state number
own_apart state own after number apart = get_or-set_other state.owns own.who number own (blank number 0) apart

-- touches write nothing
touches_write_nothing : (who : ℕ) (wants : List Want) (page : ℕ) (entry : Entry) → Contains (touches_by who wants) entry → writes_page page entry ≡ true → ⊥
touches_write_nothing who wants page entry inside writes =
    true≢false (sym (writes_added who [] [] wants (λ call pending. absurd (nothing_in call pending)) entry page inside writes).1)

-- after entries with the same words, more entries make the same words
same_front : (base : List (List ℕ)) (one other more : List Entry) (page word : ℕ) → value_of base one page word ≡ value_of base other page word
    → value_of base (one ++ more) page word ≡ value_of base (other ++ more) page word
same_front base one other more page word same =
    value_of_more base one more page word ∙ ap (λ value. fold (value_after page word) value more) same ∙ sym (value_of_more base other more page word)

-- the words after one call more
pub seen_with_call : (base : List (List ℕ)) (shared : Shared) (own : Own) (act : Op) (at place value page word : ℕ)
    → value_of base (view shared (with_call own act at place value)) page word
    ≡ value_after page word (value_of base (view shared own) page word) (entry_by own.who (record { op = act; page = at; word = place; value = value }))
seen_with_call base shared own act at place value page word =
    let call : Call = record { op = act; page = at; word = place; value = value } in
    let front = seen_by shared (fallen_at shared own.who) in
    ap (λ entries. value_of base (front ++ entries) page word) (map-append (entry_by own.who) own.pending (call ∷ []))
    ∙ ap (λ entries. value_of base entries page word) (sym (append_assoc front (entries_by own.who own.pending) (entry_by own.who call ∷ [])))
    ∙ value_of_more base (view shared own) (entry_by own.who call ∷ []) page word

exact_members : (items : List Item) (mark : Mark) → IsExactMark items mark → members_of mark ≡ association_of items (head_of mark)
exact_members items (Commit lead members) exact = exact
exact_members items (Rollback lost members) exact = exact

-- a mark leaves the words of a page whose open writes are of the association of a client that it does not name
mark_leaves : (base : List (List ℕ)) (items : List Item) (mark : Mark) (who page word : ℕ) → IsExactMark items mark → WritersAreWith items page who
    → has_member who (members_of mark) ≡ false
    → value_of base (live_entries (items ++ item.Mark mark ∷ [])) page word ≡ value_of base (live_entries items) page word
mark_leaves base items mark who page word exact writers outside =
    value_after_mark base items mark page word
    (λ write inside writes.
    let is = exact_members items mark exact in
    ap (has_member write.who) is ∙ members_together items (head_of mark) write.who who (writers write inside writes) ∙ ap (has_member who) (sym is) ∙ outside)

-- a client that holds a page as a step begins
module _ (state : State) (has : HasHistory state) (who page word : ℕ) (holds : HoldsPage state who page) where
  -- it sees the word as before, if it stands
  abbrev pub SeesTheSame : State → Type 0
  SeesTheSame after = IsStanding after who → value_seen after who page word ≡ value_seen state who page word

  own_entries : List Entry
  own_entries = entries_by who (own_at state who).pending

  words_by : (after : State) → after.base ≡ state.base → (own_at after who).who ≡ who
      → (IsStanding after who → value_of state.base (live_entries after.shared.trail ++ entries_by who (own_at after who).pending) page word
      ≡ value_of state.base (live_entries state.shared.trail ++ entries_by who (own_at state who).pending) page word)
      → SeesTheSame after
  words_by after base number same stands =
      sees_own after who page word number stands
      ∙ ap (λ array. value_of array (live_entries after.shared.trail ++ entries_by who (own_at after who).pending) page word) base ∙ same stands
      ∙ sym (sees_own state who page word (has.order.shaped.numbers who) holds.0)

  -- where its own part is as it was
  pub words_apart : (after : State) → after.base ≡ state.base → own_at after who ≡ own_at state who
      → (IsStanding after who → value_of state.base (live_entries after.shared.trail) page word ≡ value_of state.base (live_entries state.shared.trail) page word)
      → SeesTheSame after
  words_apart after base own same =
      words_by after base (ap (λ (one : Own). one.who) own ∙ has.order.shaped.numbers who)
      (λ stands.
      ap (λ (one : Own). value_of state.base (live_entries after.shared.trail ++ entries_by who one.pending) page word) own
      ∙ same_front state.base (live_entries after.shared.trail) (live_entries state.shared.trail) (entries_by who (own_at state who).pending) page word (same stands))

  -- after what is no turn of a client
  pub words_marked : (after : Shared) → Marks state.shared after → (client : Client) → client_at after who ≡ Some client → client.fallen ≡ None
      → value_of state.base (live_entries after.trail) page word ≡ value_of state.base (live_entries state.shared.trail) page word
  words_marked after (Marks.stays trail up) client live is = ap (λ items. value_of state.base (live_entries items) page word) trail
  words_marked after (Marks.commits lead members exact trail up) client live is =
      ap (λ items. value_of state.base (live_entries items) page word) trail
      ∙ ap (λ entries. value_of state.base entries page word) (live_after_commit state.shared.trail lead members)
  words_marked after (Marks.rolls_back mark exact trail up) client live is =
      ap (λ items. value_of state.base (live_entries items) page word) trail
      ∙ mark_leaves state.base state.shared.trail mark who page word exact
      (subst (WritersAreWith state.shared.trail page) (has.order.shaped.numbers who) ((good_standing state who has holds.0).writers page holds.1))
      (up who client live is).1

  -- after a turn of another that records
  others_recorded : (one : ℕ) (wants : List Want) → one ≢ who → IsStanding state one
      → value_of state.base (live_entries (state.shared.trail ++ as_items (added_by (own_at state one).who (own_at state one).pending wants))) page word
      ≡ value_of state.base (live_entries state.shared.trail) page word
  others_recorded one wants apart stands =
      let own = own_at state one in
      let added = added_by own.who own.pending wants in
      ap (λ entries. value_of state.base entries page word) (live_of_more_entries state.shared.trail added)
      ∙ words_before state.base (live_entries state.shared.trail) added page word
      (λ entry inside writes.
      apart (writer_is_alone state one who page has.order stands
      (writes_added own.who own.held own.pending wants (good_standing state one has stands).held entry page inside writes).1 holds))

  -- after its own
  own_recorded : (wants : List Want)
      → value_of state.base (live_entries (state.shared.trail ++ as_items (added_by (own_at state who).who (own_at state who).pending wants))) page word
      ≡ value_of state.base (live_entries state.shared.trail ++ entries_by who (own_at state who).pending) page word
  own_recorded wants =
      let own = own_at state who in
      let live = live_entries state.shared.trail in
      ap (λ entries. value_of state.base entries page word)
      (live_of_more_entries state.shared.trail (added_by own.who own.pending wants) ∙ sym (append_assoc live (entries_by own.who own.pending) (touches_by own.who wants)))
      ∙ words_before state.base (live ++ entries_by own.who own.pending) (touches_by own.who wants) page word (touches_write_nothing own.who wants page)
      ∙ ap (λ number. value_of state.base (live ++ entries_by number own.pending) page word) (has.order.shaped.numbers who)

  standing_up : (one : ℕ) → IsUp state.shared (own_at state one).who → IsStanding state one
  standing_up one up = (up.client, subst (λ number. client_at state.shared number ≡ Some up.client) (has.order.shaped.numbers one) up.live, up.up)

  -- after a turn whose client had fallen, or that records
  pub words_turned : {R : Type 0} (one : ℕ) (turn : Option Fallen → Turned R) → IsClient one → is_live state.shared one ≡ true
      → ((fallen : Fallen) → (turn (Some fallen)).own.who ≡ (own_at state one).who) → ((fallen : Fallen) → (turn (Some fallen)).shared.trail ≡ state.shared.trail)
      → Records state.shared (own_at state one) (turn None).shared (turn None).own
      → (fallen : Option Fallen) → fallen_at state.shared (own_at state one).who ≡ fallen → SeesTheSame (after_turn state (turn fallen))
  words_turned one turn is live named told records (Some fallen) e = by_number (cases_eq who one)
    where
      by_number : (who ≡ one) ⊎ (who ≢ one) → SeesTheSame (after_turn state (turn (Some fallen)))
      by_number (inl same) =
          absurd (true≢false (ap is_some (sym e ∙ ap (fallen_at state.shared) (has.order.shaped.numbers one ∙ sym same) ∙ up_standing state who holds.0)))
      by_number (inr apart) =
          words_apart (after_turn state (turn (Some fallen))) refl
          (own_apart state (turn (Some fallen)).own (turn (Some fallen)).shared who (λ same. apart (same ∙ named fallen ∙ has.order.shaped.numbers one)))
          (λ stands. ap (λ items. value_of state.base (live_entries items) page word) (told fallen))
  words_turned one turn is live named told records None e = by_number (cases_eq who one)
    where
      after : State
      after = after_turn state (turn None)

      by_number : (who ≡ one) ⊎ (who ≢ one) → SeesTheSame after
      by_number (inl same) =
          let now : own_at after who ≡ (turn None).own =
          set_own state (turn None).own (turn None).shared (in_owns state one (turn None).own has.order is records.who) who
          (same ∙ sym (records.who ∙ has.order.shaped.numbers one)) in
          words_by after refl (ap (λ (own : Own). own.who) now ∙ records.who ∙ has.order.shaped.numbers one ∙ sym same)
          (λ stands.
          ap (λ (own : Own). value_of state.base (live_entries (turn None).shared.trail ++ entries_by who own.pending) page word) now
          ∙ ap (λ calls. value_of state.base (live_entries (turn None).shared.trail ++ entries_by who calls) page word) records.pending
          ∙ ap (λ entries. value_of state.base entries page word) (append-nil (live_entries (turn None).shared.trail))
          ∙ ap (λ items. value_of state.base (live_entries items) page word) records.trail
          ∙ ap (λ number. value_of state.base (live_entries (state.shared.trail ++ as_items (added_by (own_at state number).who (own_at state number).pending records.wants))) page word)
          (sym same)
          ∙ own_recorded records.wants)
      by_number (inr apart) =
          words_apart after refl
          (own_apart state (turn None).own (turn None).shared who (λ same. apart (same ∙ records.who ∙ has.order.shaped.numbers one)))
          (λ stands.
          ap (λ items. value_of state.base (live_entries items) page word) records.trail
          ∙ others_recorded one records.wants (λ same. apart (sym same))
          (standing_up one (up_as_it_stands state.shared (own_at state one) (stands_at state one has.order live) e)))
