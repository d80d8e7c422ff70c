use Rattle.std.proofs.Common.{◌≡◌, ◌<◌, ℕ, Bool, true, false, cond, not, ◌==◌, List, [], ◌∷◌, ◌++◌, filter, Contains, Option, Some, None, ap, sym, subst, ◌∙◌, refl}
use Rattle.std.proofs.lemmas.Bool.{and_parts, eqb-true, true≢false}
use Rattle.casper_words.specs.Crew.{IsClient, has_member}
use Rattle.casper_trail.specs.declared.entry.Entry.{Entry}
use Rattle.casper_trail.specs.declared.mark.Mark.{Mark}
use Rattle.casper_trail.specs.declared.mark.Mark.TheVariants.{Commit, Rollback}
use Rattle.casper_trail.specs.declared.item.Item.{Item}
use Rattle.casper_trail.specs.declared.item.Item.TheVariants as item
use Rattle.casper_trail.specs.Value.{is_write, writes_page, value_of}
use Rattle.casper_trail.specs.Fate.{members_of}
use Rattle.casper_trail.specs.Parts.{live_entries, stable_entries, open_entries}
use Rattle.casper_trail.specs.Association.{alone, association_of}
use Rattle.casper_trail.specs.Marks.{IsExactMark}
use Rattle.casper_trail.proofs.CallLists.{clients_of_more}
use Rattle.casper_trail.proofs.Links.{client_at, one_association_a_page}
use Rattle.casper_trail.proofs.Parts.{open_after_mark}
use Rattle.casper_trail.proofs.Rounds.{association_of_a_member, association_holds_its_client}
use Rattle.casper_trail.proofs.Growth.{members_after_mark, others_after_mark}
use Rattle.casper_audit.specs.Text.{most_pages}
use Rattle.casper_audit.specs.Settled.{commits}
use Rattle.casper_audit.specs.Keeps.{HasOpenWrite, Keeps}
use Rattle.casper_audit.proofs.ContainsLemmas.{contains_pass, contains_kept}
use Rattle.casper_audit.proofs.PartValues.{WordWritersPass, theirs_after_commit, theirs_after_rollback}
use Rattle.casper_audit.proofs.PartValues as values

-- the client whose association a mark names
abbrev pub lead_of : Mark → ℕ
lead_of (Commit lead members) = lead
lead_of (Rollback lost members) = lost

members_are : (items : List Item) (mark : Mark) → IsExactMark items mark → members_of mark ≡ association_of items (lead_of mark)
members_are items (Commit lead members) exact = exact
members_are items (Rollback lost members) exact = exact

not_false : (b : Bool) → not b ≡ true → b ≡ false
not_false true h = absurd (true≢false (sym h))
not_false false h = refl

-- the words, and the pages, of the open writes of members of a mark
pub record IsTheirs (members : List ℕ) (opened : ℕ → ℕ → ℕ → Bool) (theirs : ℕ → ℕ → Bool) (pages : ℕ → Bool) : Type 0 where
  pub words_from : (page word : ℕ) → theirs page word ≡ true → (who : ℕ) × IsClient who × (has_member who members ≡ true) × (opened who page word ≡ true)
  pub words_have : (who page word : ℕ) → IsClient who → has_member who members ≡ true → opened who page word ≡ true → theirs page word ≡ true
  pub pages_from : (page : ℕ) → pages page ≡ true → (who : ℕ) × (word : ℕ) × IsClient who × (has_member who members ≡ true) × (opened who page word ≡ true)
  pub pages_have : (who page word : ℕ) → IsClient who → has_member who members ≡ true → opened who page word ≡ true → pages page ≡ true

module _ {base : List (List ℕ)} {items : List Item} {live stable : ℕ → ℕ → ℕ} {writer : ℕ → Option ℕ} {opened : ℕ → ℕ → ℕ → Bool} {group : ℕ → List ℕ}
    (keeps : Keeps base items live stable writer opened group) (mark : Mark) (exact : IsExactMark items mark) where
  writer_of : (write : Entry) → Contains (open_entries items) write → IsClient write.who
  writer_of write inside = client_at items write inside.0 keeps.clients inside.1 inside.2

  -- all open writes of a page with an open write of a member are of members
  page_of_members : (who page word : ℕ) → IsClient who → has_member who (members_of mark) ≡ true → opened who page word ≡ true
      → (write : Entry) → Contains (open_entries items) write → writes_page page write ≡ true → has_member write.who (members_of mark) ≡ true
  page_of_members who page word is named opens write inside writes =
      let old : HasOpenWrite items page who = keeps.had who page word is opens in
      let same : association_of items write.who ≡ association_of items old.write.who = one_association_a_page items page write old.write keeps.clients inside old.among writes old.writes in
      let here : has_member who (association_of items (lead_of mark)) ≡ true = ap (has_member who) (sym (members_are items mark exact)) ∙ named in
      let whole : association_of items who ≡ association_of items (lead_of mark) = association_of_a_member items (lead_of mark) who here in
      ap (has_member write.who) (members_are items mark exact ∙ sym whole ∙ sym (ap (association_of items) old.by) ∙ sym same)
      ∙ association_holds_its_client items write.who (writer_of write inside)

  module _ {theirs : ℕ → ℕ → Bool} {pages : ℕ → Bool} (are : IsTheirs (members_of mark) opened theirs pages) where
    -- a word among theirs has open writes of members alone, and any other word of others alone
    word_of_members : (page word : ℕ) → theirs page word ≡ true → WordWritersPass items page word (λ who. has_member who (members_of mark) ≡ true)
    word_of_members page word found write inside writes =
        let some = are.words_from page word found in
        page_of_members some.0 page word some.1 some.2 some.3 write inside (and_parts (writes_page page write) (write.word == word) writes).0

    word_of_others : (page word : ℕ) → theirs page word ≡ false → WordWritersPass items page word (λ who. has_member who (members_of mark) ≡ false)
    word_of_others page word out write inside writes = by_member (has_member write.who (members_of mark)) refl
      where
        parts : (writes_page page write ≡ true) × ((write.word == word) ≡ true)
        parts = and_parts (writes_page page write) (write.word == word) writes

        on_page : (is_write write.op ≡ true) × ((write.page == page) ≡ true)
        on_page = and_parts (is_write write.op) (write.page == page) parts.0

        opens : opened write.who page word ≡ true
        opens = ap (λ (p : ℕ). opened write.who p word) (sym (eqb-true write.page page on_page.1))
            ∙ ap (λ (w : ℕ). opened write.who write.page w) (sym (eqb-true write.word word parts.1))
            ∙ keeps.has write inside on_page.0

        by_member : (b : Bool) → has_member write.who (members_of mark) ≡ b → has_member write.who (members_of mark) ≡ false
        by_member true named = absurd (true≢false (sym (are.words_have write.who page word (writer_of write inside) named opens) ∙ out))
        by_member false e = e

    open_now : open_entries (items ++ item.Mark mark ∷ []) ≡ filter (λ entry. not (has_member entry.who (members_of mark))) (open_entries items)
    open_now = open_after_mark items mark

    still_open : (page who : ℕ) → HasOpenWrite items page who → has_member who (members_of mark) ≡ false → HasOpenWrite (items ++ item.Mark mark ∷ []) page who
    still_open page who old out = record {
      write = old.write;
      among = subst (λ (entries : List Entry). Contains entries old.write) (sym open_now)
          (contains_pass (λ entry. not (has_member entry.who (members_of mark))) (open_entries items) old.write old.among
          (ap (λ (n : ℕ). not (has_member n (members_of mark))) old.by ∙ ap not out));
      writes = old.writes;
      by = old.by;
    }

    was_open : (write : Entry) → Contains (open_entries (items ++ item.Mark mark ∷ [])) write → Contains (open_entries items) write × (has_member write.who (members_of mark) ≡ false)
    was_open write inside =
        let kept = contains_kept (λ (entry : Entry). not (has_member entry.who (members_of mark))) (open_entries items) write (subst (λ (entries : List Entry). Contains entries write) open_now inside) in
        (kept.0, not_false (has_member write.who (members_of mark)) kept.1)

    -- the value that a word of theirs has after the mark
    abbrev decided : ℕ → ℕ → ℕ
    decided page word = cond (commits mark) (live page word) (stable page word)

    theirs_now : (m : Mark) → (page word : ℕ) → page < most_pages → word < 512 → WordWritersPass items page word (λ who. has_member who (members_of m) ≡ true)
        → (cond (commits m) (live page word) (stable page word) ≡ value_of base (live_entries (items ++ item.Mark m ∷ [])) page word)
        × (cond (commits m) (live page word) (stable page word) ≡ value_of base (stable_entries (items ++ item.Mark m ∷ [])) page word)
    theirs_now (Commit lead members) page word below within pass =
        let after = theirs_after_commit base items lead members page word pass in
        (keeps.live_is page word below within ∙ sym after.0, keeps.live_is page word below within ∙ sym after.1)
    theirs_now (Rollback lost members) page word below within pass =
        let after = theirs_after_rollback base items lost members page word pass in
        (keeps.stable_is page word below within ∙ sym after.0, keeps.stable_is page word below within ∙ sym after.1)

    -- what is kept after a mark
    pub keeps_mark : {live' stable' : ℕ → ℕ → ℕ} {writer' : ℕ → Option ℕ} {opened' : ℕ → ℕ → ℕ → Bool} {group' : ℕ → List ℕ}
        → ((page word : ℕ) → live' page word ≡ cond (theirs page word) (cond (commits mark) (live page word) (stable page word)) (live page word))
        → ((page word : ℕ) → stable' page word ≡ cond (theirs page word) (cond (commits mark) (live page word) (stable page word)) (stable page word))
        → ((page : ℕ) → writer' page ≡ cond (pages page) None (writer page))
        → ((client page word : ℕ) → IsClient client → opened' client page word ≡ cond (has_member client (members_of mark)) false (opened client page word))
        → ((client : ℕ) → IsClient client → group' client ≡ cond (has_member client (members_of mark)) (alone client) (group client))
        → Keeps base (items ++ item.Mark mark ∷ []) live' stable' writer' opened' group'
    keeps_mark {live'} {stable'} {writer'} {opened'} {group'} lives stables writers opens grouped = record {
      clients = clients_of_more items (item.Mark mark ∷ []) keeps.clients tt;
      live_is = λ page word below within. lives page word ∙ live_by page word below within (theirs page word) refl;
      stable_is = λ page word below within. stables page word ∙ stable_by page word below within (theirs page word) refl;
      written = λ page who is. written_by page who (pages page) refl (sym (writers page) ∙ is);
      unwritten = λ page write is inside writes. unwritten_by page write inside writes (pages page) refl (sym (writers page) ∙ is);
      has = λ write inside writes. let old = was_open write inside in
          opens write.who write.page write.word (writer_of write old.0) ∙ ap (λ (b : Bool). cond b false (opened write.who write.page write.word)) old.1 ∙ keeps.has write old.0 writes;
      had = λ who page word is found. had_by who page word is (has_member who (members_of mark)) refl (sym (opens who page word is) ∙ found);
      groups = λ client is. grouped client is ∙ group_by client is (has_member client (members_of mark)) refl;
    }
      where
        live_by : (page word : ℕ) → page < most_pages → word < 512 → (b : Bool) → theirs page word ≡ b
            → cond b (cond (commits mark) (live page word) (stable page word)) (live page word) ≡ value_of base (live_entries (items ++ item.Mark mark ∷ [])) page word
        live_by page word below within true e = (theirs_now mark page word below within (word_of_members page word e)).0
        live_by page word below within false e = keeps.live_is page word below within ∙ sym (values.others_after_mark base items mark page word (word_of_others page word e)).0

        stable_by : (page word : ℕ) → page < most_pages → word < 512 → (b : Bool) → theirs page word ≡ b
            → cond b (cond (commits mark) (live page word) (stable page word)) (stable page word) ≡ value_of base (stable_entries (items ++ item.Mark mark ∷ [])) page word
        stable_by page word below within true e = (theirs_now mark page word below within (word_of_members page word e)).1
        stable_by page word below within false e = keeps.stable_is page word below within ∙ sym (values.others_after_mark base items mark page word (word_of_others page word e)).1

        written_by : (page who : ℕ) → (b : Bool) → pages page ≡ b → cond b None (writer page) ≡ Some who → HasOpenWrite (items ++ item.Mark mark ∷ []) page who
        written_by page who true e there = absurd (let h : None ≡ Some who = there in cc)
        written_by page who false e there = by_member (has_member who (members_of mark)) refl
          where
            old : HasOpenWrite items page who
            old = keeps.written page who there

            parts : (is_write old.write.op ≡ true) × ((old.write.page == page) ≡ true)
            parts = and_parts (is_write old.write.op) (old.write.page == page) old.writes

            by_member : (named : Bool) → has_member who (members_of mark) ≡ named → HasOpenWrite (items ++ item.Mark mark ∷ []) page who
            by_member false out = still_open page who old out
            by_member true found = absurd (true≢false (sym (are.pages_have old.write.who page old.write.word (writer_of old.write old.among)
                (ap (λ (n : ℕ). has_member n (members_of mark)) old.by ∙ found)
                (ap (λ (p : ℕ). opened old.write.who p old.write.word) (sym (eqb-true old.write.page page parts.1)) ∙ keeps.has old.write old.among parts.0)) ∙ e))

        unwritten_by : (page : ℕ) (write : Entry) → Contains (open_entries (items ++ item.Mark mark ∷ [])) write → writes_page page write ≡ true
            → (b : Bool) → pages page ≡ b → cond b None (writer page) ≡ None → ⊥
        unwritten_by page write inside writes true e there =
            let old = was_open write inside in
            let some = are.pages_from page e in
            true≢false (sym (page_of_members some.0 page some.1 some.2 some.3 some.4 write old.0 writes) ∙ old.1)
        unwritten_by page write inside writes false e there = keeps.unwritten page write there (was_open write inside).0 writes

        had_by : (who page word : ℕ) → IsClient who → (named : Bool) → has_member who (members_of mark) ≡ named → cond named false (opened who page word) ≡ true
            → HasOpenWrite (items ++ item.Mark mark ∷ []) page who
        had_by who page word is true e found = absurd (true≢false (sym found))
        had_by who page word is false e found = still_open page who (keeps.had who page word is found) e

        group_by : (client : ℕ) → IsClient client → (named : Bool) → has_member client (members_of mark) ≡ named
            → cond named (alone client) (group client) ≡ association_of (items ++ item.Mark mark ∷ []) client
        group_by client is true e = sym (members_after_mark items mark client e)
        group_by client is false e = keeps.groups client is ∙ sym (others_after_mark items mark client exact e)
