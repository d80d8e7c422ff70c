use Rattle.std.proofs.Common.{◌≡◌, ℕ, ◌<◌, List, [], ◌∷◌, ◌++◌, Bool, true, false, cond, ◌&&◌, ◌==◌, nat_eq, eq-eqb, length, set, get_or, get_or-set_same, get_or-set_other, length-set, refl, sym, ap, ◌∙◌, subst, ⊎_elim, append_assoc, slice_index, arith}
use Rattle.std.specs.Prelude.{Option, None, Some, IsSome, option_map, unwrap_or, IfSome}
use Rattle.std.proofs.lemmas.Bool.{cases_eq, ne_eqb}
use Rattle.std.proofs.lemmas.List.{map-append}
use Rattle.casper_words.specs.declared.call.Op.TheVariants as op
use Rattle.casper_words.specs.declared.call.Call.{Call}
use Rattle.casper_trail.specs.declared.entry.Entry.{Entry}
use Rattle.casper_trail.specs.Value.{value_of, value_after}
use Rattle.casper_trail.specs.Parts.{live_entries}
use Rattle.casper_trail.specs.Calls.{entry_by, entries_by}
use Rattle.casper_trail.proofs.Values.{value_of_more}
use Rattle.casper_cache.specs.declared.held.Held.{Held}
use Rattle.casper_cache.specs.Holding.{is_of, entry_of, words_of, front_of, with_word}
use Rattle.casper_cache.specs.Own as cache
use Rattle.casper_cache.proofs.Entries.{entry_of-page}
use Rattle.casper_cache.proofs.ChangeLaws.{front_keeps_entries, written_changes_one}
use Rattle.casper_cache.proofs.SoundSteps.{sound-after_read, sound-after_write, length-front_of, length-written}
use Rattle.casper_model.specs.Hits.{hit_read, hit_write, with_call}
use Rattle.casper_turns.proofs.HitTurns.{read_hit_keeps, write_hit_keeps}
use Rattle.casper_hub.specs.HubView.{HubView, items_seen}
use Rattle.casper_hub.specs.Words.{seen_value, AreWords}
use Rattle.casper_hub.specs.Owned.{own_of}
use Rattle.casper_hub.specs.Relying.{OwnsBehindRead, OwnsBehindWrite, RightBehindRead, RightBehindWrite, HitsReadWhatIsSeen}
use Rattle.casper_hub.proofs.StandsFor.{good_with, good_with_each}
use Rattle.casper_hub.proofs.HeldHits.{can_read, can_write, own_behind_read, own_behind_write}
use Rattle.casper_hub.proofs.Giving.{words_held}
use Rattle.casper_hub.proofs.Relying.{same_words}

-- what a hit leaves of the own part, the machine's hit leaves
read_hit_made : (own : cache.Own) (page word value : ℕ) → cache.IsSound own → cache.CanRead own page
    → hit_read (own_of own) page word value ≡ Some (own_of (cache.after_read own (record { op = op.Read; page = page; word = word; value = value })))
read_hit_made own page word value sound can =
    ap (λ hit. cond hit (Some (with_call (own_of own) op.Read page word value)) None) (can_read own page sound can) ∙ ap Some (sym (own_behind_read own page word value sound))

write_hit_made : (own : cache.Own) (page word value : ℕ) → cache.IsSound own → cache.CanWrite own page
    → hit_write (own_of own) page word value ≡ Some (own_of (cache.after_write own (record { op = op.Write; page = page; word = word; value = value })))
write_hit_made own page word value sound can =
    ap (λ hit. cond hit (Some (with_call (own_of own) op.Write page word value)) None) (can_write own page sound can) ∙ ap Some (sym (own_behind_write own page word value sound))

pub owns_behind_read : OwnsBehindRead
owns_behind_read hub own page word value owns can = record {
  sound = sound-after_read own call owns.sound can.room;
  few = let fewer = length-front_of page own.held in let few = owns.few in omega (arith, fewer, few);
  live = owns.live;
  good = good_with_each hub (own_of (cache.after_read own call)) (λ shared shows good.
      read_hit_keeps shared (own_of own) (own_of (cache.after_read own call)) page word value (good_with hub (own_of own) owns.good shared shows good)
      (read_hit_made own page word value owns.sound can));
}
  where
    call : Call
    call = record { op = op.Read; page = page; word = word; value = value }

pub owns_behind_write : OwnsBehindWrite
owns_behind_write hub own page word value owns can = record {
  sound = sound-after_write own call owns.sound can.room;
  few = let fewer = length-written page word value own.held in let few = owns.few in omega (arith, fewer, few);
  live = owns.live;
  good = good_with_each hub (own_of (cache.after_write own call)) (λ shared shows good.
      write_hit_keeps shared (own_of own) (own_of (cache.after_write own call)) page word value (good_with hub (own_of own) owns.good shared shows good)
      (write_hit_made own page word value owns.sound can));
}
  where
    call : Call
    call = record { op = op.Write; page = page; word = word; value = value }

-- what a client sees after one call more
seen_more : (base : List (List ℕ)) (hub : HubView) (own : cache.Own) (call : Call) (page word : ℕ)
    → value_of base (live_entries (items_seen hub own.client) ++ entries_by own.client (own.pending ++ call ∷ [])) page word
    ≡ value_after page word (seen_value base hub own page word) (entry_by own.client call)
seen_more base hub own call page word =
    ap (λ (back : List Entry). value_of base (live_entries (items_seen hub own.client) ++ back) page word) (map-append (entry_by own.client) own.pending (call ∷ []))
    ∙ ap (λ (all : List Entry). value_of base all page word)
    (sym (append_assoc (live_entries (items_seen hub own.client)) (entries_by own.client own.pending) (entry_by own.client call ∷ [])))
    ∙ value_of_more base (live_entries (items_seen hub own.client) ++ entries_by own.client own.pending) (entry_by own.client call ∷ []) page word

pub right_behind_read : RightBehindRead
right_behind_read base hub own page word value owns right q =
    of_words (words_of q (front_of page own.held)) (ap (option_map (λ (h : Held). h.words)) (front_keeps_entries page q own.held))
  where
    call : Call
    call = record { op = op.Read; page = page; word = word; value = value }

    of_words : (o : Option (List ℕ)) → o ≡ words_of q own.held → IfSome o (λ words. AreWords (seen_value base hub (cache.after_read own call)) q words)
    of_words None same = tt
    of_words (Some words) same =
        same_words (seen_value base hub own) (seen_value base hub (cache.after_read own call)) q words (λ at. sym (seen_more base hub own call q at))
        (subst (λ (o : Option (List ℕ)). IfSome o (λ words. AreWords (seen_value base hub own) q words)) (sym same) (right q))

-- a word of a page that was written
word_of_set : (words : List ℕ) (at value word : ℕ) → word < length words → slice_index (set words at value) word ≡ cond (at == word) value (slice_index words word)
word_of_set words at value word below =
    ⊎_elim
    (λ (same : word ≡ at).
    let test : nat_eq at word ≡ true = eq-eqb at word (sym same) in
    ap (λ (k : ℕ). get_or (set words at value) k 0) same ∙ get_or-set_same words at value 0 (subst (λ (k : ℕ). k < length words) same below)
    ∙ ap (λ (b : Bool). cond b value (slice_index words word)) (sym test))
    (λ (differ : word ≡ at → ⊥).
    let test : nat_eq at word ≡ false = ne_eqb at word (λ e. differ (sym e)) in
    get_or-set_other words at word value 0 differ ∙ ap (λ (b : Bool). cond b value (slice_index words word)) (sym test))
    (cases_eq word at)

pub right_behind_write : RightBehindWrite
right_behind_write base hub own page word value below owns can right q =
    subst (λ (o : Option (List ℕ)). IfSome o (λ words. AreWords now q words)) (sym (ap (option_map (λ (h : Held). h.words)) (written_changes_one page word value q own.held)))
    (of_entry (entry_of q own.held) (λ entry is. entry_of-page q own.held entry is) (right q))
  where
    call : Call
    call = record { op = op.Write; page = page; word = word; value = value }

    now : ℕ → ℕ → ℕ
    now = seen_value base hub (cache.after_write own call)

    of_entry : (o : Option Held) → ((entry : Held) → o ≡ Some entry → entry.page ≡ q) → IfSome (option_map (λ (h : Held). h.words) o) (λ words. AreWords (seen_value base hub own) q words)
        → IfSome (option_map (λ (h : Held). h.words) (option_map (λ (entry : Held). cond (is_of page entry) (with_word word value entry) entry) o)) (λ words. AreWords now q words)
    of_entry None of are = tt
    of_entry (Some entry) of are =
        ⊎_elim
        (λ (same : q ≡ page).
        let test : nat_eq entry.page page ≡ true = eq-eqb entry.page page (of entry refl ∙ same) in
        let test_too : nat_eq page q ≡ true = eq-eqb page q (sym same) in
        let words : AreWords now q (set entry.words word value) = record {
          long = length-set entry.words word value ∙ are.long;
          each = λ at inside.
              word_of_set entry.words word value at (subst (λ n. at < n) (sym are.long) inside)
              ∙ ap (λ was. cond (word == at) value was) (are.each at inside)
              ∙ sym (seen_more base hub own call q at ∙ ap (λ b. cond (b && (word == at)) value (seen_value base hub own q at)) test_too);
        } in
        subst (λ (b : Bool). AreWords now q (cond b (with_word word value entry) entry).words) (sym test) words)
        (λ (differ : q ≡ page → ⊥).
        let test : nat_eq entry.page page ≡ false = ne_eqb entry.page page (λ e. differ (sym (of entry refl) ∙ e)) in
        let test_too : nat_eq page q ≡ false = ne_eqb page q (λ e. differ (sym e)) in
        let words : AreWords now q entry.words =
        same_words (seen_value base hub own) now q entry.words
        (λ at. sym (seen_more base hub own call q at ∙ ap (λ b. cond (b && (word == at)) value (seen_value base hub own q at)) test_too)) are in
        subst (λ (b : Bool). AreWords now q (cond b (with_word word value entry) entry).words) (sym test) words)
        (cases_eq q page)

pub hits_read_what_is_seen : HitsReadWhatIsSeen
hits_read_what_is_seen base hub own page word below right can =
    of_words (words_of page own.held) (words_held page own.held can.held) (right page)
  where
    of_words : (o : Option (List ℕ)) → IsSome o → IfSome o (λ words. AreWords (seen_value base hub own) page words) → slice_index (unwrap_or o []) word ≡ seen_value base hub own page word
    of_words None is are = cc
    of_words (Some words) is are = are.each word below
