use Rattle.std.proofs.Common.{◌≡◌, ◌⊎◌, ℕ, Bool, true, false, cond, ◌&&◌, ◌||◌, ◌==◌, List, [], ◌∷◌, ◌++◌, Contains, Option, Some, None, ap, sym, subst, ◌∙◌, refl, ⊎_elim, eq-eqb}
use Rattle.std.proofs.lemmas.Bool.{or_cases, or_left, or_right, and_parts, eqb-true, true≢false}
use Rattle.casper_words.specs.Crew.{IsClient, has_member, crew_of}
use Rattle.casper_words.proofs.CrewLemmas.{has_member_crew_of}
use Rattle.casper_trail.specs.declared.entry.Entry.{Entry}
use Rattle.casper_trail.specs.declared.item.Item.{Item}
use Rattle.casper_trail.specs.declared.item.Item.TheVariants as item
use Rattle.casper_trail.specs.Value.{is_write, writes_page, writes_word, value_of}
use Rattle.casper_trail.specs.Parts.{live_entries, open_entries}
use Rattle.casper_trail.specs.Association.{association_of}
use Rattle.casper_trail.proofs.CallLists.{clients_of_more}
use Rattle.casper_trail.proofs.LinkLists.{contains_push}
use Rattle.casper_trail.proofs.Links.{client_at}
use Rattle.casper_trail.proofs.Parts.{live_of_more_entries, stable_of_more_entries, open_of_more_entries}
use Rattle.casper_trail.proofs.Rounds.{association_of_a_member}
use Rattle.casper_trail.proofs.Values.{value_of_more}
use Rattle.casper_trail.proofs.Growth.{association_of_one_more, associations_unite, others_stay_apart}
use Rattle.casper_audit.specs.Keeps.{HasOpenWrite, Keeps}
use Rattle.casper_audit.proofs.ContainsLemmas.{contains_more, contains_last}

or_false_parts : (b c : Bool) → (b || c) ≡ false → (b ≡ false) × (c ≡ false)
or_false_parts true c h = absurd (true≢false h)
or_false_parts false c h = (refl, h)

nothing_there : {X : Type 0} (x : X) → Some x ≡ None → ⊥
nothing_there x h = cc

-- the members of the associations of a client and of the writer of a page
abbrev pub together : (ℕ → List ℕ) → ℕ → ℕ → List ℕ
together group who writer = crew_of (λ client. has_member client (group who) || has_member client (group writer))

-- the associations after an entry, by the writer of its page
abbrev pub linked_by : (ℕ → List ℕ) → ℕ → Option ℕ → ℕ → List ℕ
linked_by group who None client = group client
linked_by group who (Some writer) client = cond (has_member client (together group who writer)) (together group who writer) (group client)

module _ {base : List (List ℕ)} {items : List Item} {live stable : ℕ → ℕ → ℕ} {writer : ℕ → Option ℕ} {opened : ℕ → ℕ → ℕ → Bool} {group : ℕ → List ℕ}
    (keeps : Keeps base items live stable writer opened group) (entry : Entry) (is_client : IsClient entry.who) where
  pub groups_after : (client : ℕ) → IsClient client → linked_by group entry.who (writer entry.page) client ≡ association_of (items ++ item.Entry entry ∷ []) client
  groups_after client is = by_writer (writer entry.page) refl
    where
      alone_on_page : writer entry.page ≡ None → (write : Entry) → Contains (open_entries items) write → writes_page entry.page write ≡ true → has_member write.who (association_of items entry.who) ≡ true
      alone_on_page e write inside writes = absurd (keeps.unwritten entry.page write e inside writes)

      by_writer : (found : Option ℕ) → writer entry.page ≡ found → linked_by group entry.who found client ≡ association_of (items ++ item.Entry entry ∷ []) client
      by_writer None e = keeps.groups client is ∙ sym (association_of_one_more items entry is_client (alone_on_page e) client)
      by_writer (Some who) e = by_member (has_member client all) refl
        where
          old : HasOpenWrite items entry.page who
          old = keeps.written entry.page who e

          is_writer : IsClient old.write.who
          is_writer = client_at items old.write old.among.0 keeps.clients old.among.1 old.among.2

          all : List ℕ
          all = together group entry.who who

          united : List ℕ
          united = crew_of (λ one. has_member one (association_of items entry.who) || has_member one (association_of items old.write.who))

          all_is : all ≡ united
          all_is =
              ap (λ (own : List ℕ). crew_of (λ one. has_member one own || has_member one (group who))) (keeps.groups entry.who is_client)
              ∙ ap (λ (n : ℕ). crew_of (λ one. has_member one (association_of items entry.who) || has_member one (group n))) (sym old.by)
              ∙ ap (λ (theirs : List ℕ). crew_of (λ one. has_member one (association_of items entry.who) || has_member one theirs)) (keeps.groups old.write.who is_writer)

          united_is : association_of (items ++ item.Entry entry ∷ []) entry.who ≡ united
          united_is = associations_unite items old.write entry keeps.clients is_client old.among old.writes

          by_member : (b : Bool) → has_member client all ≡ b → cond b all (group client) ≡ association_of (items ++ item.Entry entry ∷ []) client
          by_member true found =
              all_is ∙ sym united_is
              ∙ sym (association_of_a_member (items ++ item.Entry entry ∷ []) entry.who client (ap (has_member client) (united_is ∙ sym all_is) ∙ found))
          by_member false out =
              let neither = or_false_parts (has_member client (association_of items entry.who)) (has_member client (association_of items old.write.who))
              (sym (has_member_crew_of (λ one. has_member one (association_of items entry.who) || has_member one (association_of items old.write.who)) client is) ∙ ap (has_member client) (sym all_is) ∙ out) in
              keeps.groups client is ∙ sym (others_stay_apart items old.write entry client keeps.clients is_client old.among old.writes neither.0 neither.1)

  open_after : open_entries (items ++ item.Entry entry ∷ []) ≡ open_entries items ++ entry ∷ []
  open_after = open_of_more_entries items (entry ∷ [])

  grown : (page who : ℕ) → HasOpenWrite items page who → HasOpenWrite (items ++ item.Entry entry ∷ []) page who
  grown page who old = record {
    write = old.write;
    among = subst (λ (entries : List Entry). Contains entries old.write) (sym open_after) (contains_more (open_entries items) entry old.write old.among);
    writes = old.writes;
    by = old.by;
  }

  own : (page : ℕ) → writes_page page entry ≡ true → HasOpenWrite (items ++ item.Entry entry ∷ []) page entry.who
  own page writes = record {
    write = entry;
    among = subst (λ (entries : List Entry). Contains entries entry) (sym open_after) (contains_last (open_entries items) entry);
    writes = writes;
    by = refl;
  }

  before_or_last : (write : Entry) → Contains (open_entries (items ++ item.Entry entry ∷ [])) write → Contains (open_entries items) write ⊎ (entry ≡ write)
  before_or_last write inside = contains_push (open_entries items) entry write (subst (λ (entries : List Entry). Contains entries write) open_after inside)

  -- what is kept after an entry
  pub keeps_entry : {live' stable' : ℕ → ℕ → ℕ} {writer' : ℕ → Option ℕ} {opened' : ℕ → ℕ → ℕ → Bool} {group' : ℕ → List ℕ}
      → ((page word : ℕ) → live' page word ≡ cond (writes_word page word entry) entry.value (live page word))
      → ((page word : ℕ) → stable' page word ≡ stable page word)
      → ((page : ℕ) → writer' page ≡ cond (writes_page page entry) (Some entry.who) (writer page))
      → ((client page word : ℕ) → IsClient client → opened' client page word ≡ (opened client page word || (writes_word page word entry && (client == entry.who))))
      → ((client : ℕ) → IsClient client → group' client ≡ linked_by group entry.who (writer entry.page) client)
      → Keeps base (items ++ item.Entry entry ∷ []) live' stable' writer' opened' group'
  keeps_entry {live'} {stable'} {writer'} {opened'} {group'} lives stables writers opens grouped = record {
    clients = clients_of_more items (item.Entry entry ∷ []) keeps.clients (is_client, tt);
    live_is = λ page word below within.
        lives page word
        ∙ ap (λ (v : ℕ). cond (writes_word page word entry) entry.value v) (keeps.live_is page word below within)
        ∙ sym (value_of_more base (live_entries items) (entry ∷ []) page word)
        ∙ ap (λ (entries : List Entry). value_of base entries page word) (sym (live_of_more_entries items (entry ∷ [])));
    stable_is = λ page word below within.
        stables page word ∙ keeps.stable_is page word below within ∙ ap (λ (entries : List Entry). value_of base entries page word) (sym (stable_of_more_entries items (entry ∷ [])));
    written = written;
    unwritten = unwritten;
    has = has;
    had = had;
    groups = λ client is. grouped client is ∙ groups_after client is;
  }
    where
      written : (page who : ℕ) → writer' page ≡ Some who → HasOpenWrite (items ++ item.Entry entry ∷ []) page who
      written page who is = by_write (writes_page page entry) refl (sym (writers page) ∙ is)
        where
          by_write : (b : Bool) → writes_page page entry ≡ b → cond b (Some entry.who) (writer page) ≡ Some who → HasOpenWrite (items ++ item.Entry entry ∷ []) page who
          by_write true e there = let same : entry.who ≡ who = (let h : Some entry.who ≡ Some who = there in cc) in subst (HasOpenWrite (items ++ item.Entry entry ∷ []) page) same (own page e)
          by_write false e there = grown page who (keeps.written page who there)

      unwritten : (page : ℕ) (write : Entry) → writer' page ≡ None → Contains (open_entries (items ++ item.Entry entry ∷ [])) write → writes_page page write ≡ true → ⊥
      unwritten page write is inside writes = by_write (writes_page page entry) refl (sym (writers page) ∙ is)
        where
          by_write : (b : Bool) → writes_page page entry ≡ b → cond b (Some entry.who) (writer page) ≡ None → ⊥
          by_write true e there = nothing_there entry.who there
          by_write false e there = ⊎_elim
              (λ old. keeps.unwritten page write there old writes)
              (λ same. true≢false (sym writes ∙ ap (writes_page page) (sym same) ∙ e))
              (before_or_last write inside)

      has : (write : Entry) → Contains (open_entries (items ++ item.Entry entry ∷ [])) write → is_write write.op ≡ true → opened' write.who write.page write.word ≡ true
      has write inside writes = ⊎_elim
          (λ old. opens write.who write.page write.word (client_at items write old.0 keeps.clients old.1 old.2)
          ∙ or_left (opened write.who write.page write.word) (writes_word write.page write.word entry && (write.who == entry.who)) (keeps.has write old writes))
          (λ same. subst (λ (e : Entry). opened' e.who e.page e.word ≡ true) same (
          opens entry.who entry.page entry.word is_client
          ∙ or_right (opened entry.who entry.page entry.word) (writes_word entry.page entry.word entry && (entry.who == entry.who)) (own_word (ap (λ (e : Entry). is_write e.op) same ∙ writes))
          ))
          (before_or_last write inside)
        where
          own_word : is_write entry.op ≡ true → (writes_word entry.page entry.word entry && (entry.who == entry.who)) ≡ true
          own_word e =
              ap (λ (b : Bool). ((b && (entry.page == entry.page)) && (entry.word == entry.word)) && (entry.who == entry.who)) e
              ∙ ap (λ (b : Bool). (b && (entry.word == entry.word)) && (entry.who == entry.who)) (eq-eqb entry.page entry.page refl)
              ∙ ap (λ (b : Bool). b && (entry.who == entry.who)) (eq-eqb entry.word entry.word refl)
              ∙ eq-eqb entry.who entry.who refl

      had : (who page word : ℕ) → IsClient who → opened' who page word ≡ true → HasOpenWrite (items ++ item.Entry entry ∷ []) page who
      had who page word is found = ⊎_elim
          (λ old. grown page who (keeps.had who page word is old))
          (λ new. let parts = and_parts (writes_word page word entry) (who == entry.who) new in
          let writes = and_parts (writes_page page entry) (entry.word == word) parts.0 in
          subst (HasOpenWrite (items ++ item.Entry entry ∷ []) page) (sym (eqb-true who entry.who parts.1)) (own page writes.0))
          (or_cases (opened who page word) (writes_word page word entry && (who == entry.who)) (sym (opens who page word is) ∙ found))
