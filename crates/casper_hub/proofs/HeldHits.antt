use Rattle.std.proofs.Common.{◌≡◌, ℕ, List, [], ◌∷◌, ◌++◌, Bool, true, false, ◌==◌, not, cond, filter, refl, sym, ap, ap₂, ◌∙◌, subst, true≢false}
use Rattle.std.specs.Prelude.{Option, None, Some, is_some, nat_lt}
use Rattle.std.specs.Option.{option_map, option_to_list}
use Rattle.std.proofs.lemmas.Bool.{eqb-true, and_parts, and_from, ltb-true, lt-ltb}
use Rattle.std.proofs.lemmas.List.{map-append}
use Rattle.casper_words.specs.declared.call.Op.TheVariants as op
use Rattle.casper_words.specs.declared.call.Call.{Call}
use Rattle.casper_words.specs.declared.page.Right.{Right}
use Rattle.casper_words.specs.declared.page.Right.TheVariants as may
use Rattle.casper_words.specs.declared.page.Want.{Want}
use Rattle.casper_cache.specs.declared.held.Held.{Held}
use Rattle.casper_cache.specs.Holding.{entry_of, right_of, others, front_of, written, with_word, ArePagesDistinct}
use Rattle.casper_cache.specs.Own as cache
use Rattle.casper_model.specs.Held.{is_of, allows, with_first}
use Rattle.casper_model.specs.Own as machine
use Rattle.casper_model.specs.Hits.{can_hit, with_call}
use Rattle.casper_hub.specs.Owned.{want_of, wants_of, own_of}
use Rattle.casper_hub.specs.Shows.{permits}
use Rattle.casper_hub.proofs.Showing.{allows_right}

-- A hit of a cache is a hit of the machine.

permits_some : (right : Option Right) → permits right may.Read ≡ is_some right
permits_some None = refl
permits_some (Some may.Read) = refl
permits_some (Some may.Write) = refl

permits_write : (right : Option Right) → permits right may.Write ≡ true → right ≡ Some may.Write
permits_write None is = absurd (true≢false (sym is))
permits_write (Some may.Read) is = absurd (true≢false (sym is))
permits_write (Some may.Write) is = refl

pub can_read : (own : cache.Own) (page : ℕ) → cache.IsSound own → cache.CanRead own page → can_hit (own_of own) page may.Read ≡ true
can_read own page sound can =
    and_from (allows (wants_of own.held) page may.Read) (nat_lt 0 (cache.room_of own))
    (allows_right own.held sound.distinct page may.Read ∙ permits_some (right_of page own.held) ∙ can.held) (lt-ltb 0 (cache.room_of own) can.room)

pub cannot_read : (own : cache.Own) (page : ℕ) → cache.IsSound own → (cache.CanRead own page → ⊥) → can_hit (own_of own) page may.Read ≡ false
cannot_read own page sound cannot = by_test (can_hit (own_of own) page may.Read) refl
  where
    by_test : (can : Bool) → can_hit (own_of own) page may.Read ≡ can → can ≡ false
    by_test false is = refl
    by_test true is =
        let parts = and_parts (allows (wants_of own.held) page may.Read) (nat_lt 0 (cache.room_of own)) is in
        absurd (cannot (record {
          held = sym (allows_right own.held sound.distinct page may.Read ∙ permits_some (right_of page own.held)) ∙ parts.0;
          room = ltb-true 0 (cache.room_of own) parts.1;
        }))

pub can_write : (own : cache.Own) (page : ℕ) → cache.IsSound own → cache.CanWrite own page → can_hit (own_of own) page may.Write ≡ true
can_write own page sound can =
    and_from (allows (wants_of own.held) page may.Write) (nat_lt 0 (cache.room_of own))
    (allows_right own.held sound.distinct page may.Write ∙ ap (λ right. permits right may.Write) can.held) (lt-ltb 0 (cache.room_of own) can.room)

pub cannot_write : (own : cache.Own) (page : ℕ) → cache.IsSound own → (cache.CanWrite own page → ⊥) → can_hit (own_of own) page may.Write ≡ false
cannot_write own page sound cannot = by_test (can_hit (own_of own) page may.Write) refl
  where
    by_test : (can : Bool) → can_hit (own_of own) page may.Write ≡ can → can ≡ false
    by_test false is = refl
    by_test true is =
        let parts = and_parts (allows (wants_of own.held) page may.Write) (nat_lt 0 (cache.room_of own)) is in
        absurd (cannot (record {
          held = permits_write (right_of page own.held) (sym (allows_right own.held sound.distinct page may.Write) ∙ parts.0);
          room = ltb-true 0 (cache.room_of own) parts.1;
        }))

-- the others, and the page itself, as wants
others_as_wants : (page : ℕ) (held : List Held) → wants_of (others page held) ≡ filter (λ want. not (is_of page want)) (wants_of held)
others_as_wants page [] = refl
others_as_wants page (x ∷ xs) =
    let rest = others_as_wants page xs in
    elim (x.page == page) as (λ b. wants_of (cond (not b) (x ∷ others page xs) (others page xs))
    ≡ cond (not b) (want_of x ∷ filter (λ want. not (is_of page want)) (wants_of xs)) (filter (λ want. not (is_of page want)) (wants_of xs))) [
      | true ↦ rest
      | false ↦ ap (λ wants. want_of x ∷ wants) rest
    ]

entry_as_want : (page : ℕ) (held : List Held) → ArePagesDistinct held → wants_of (option_to_list (entry_of page held)) ≡ filter (is_of page) (wants_of held)
entry_as_want page [] distinct = refl
entry_as_want page (x ∷ xs) distinct =
    let rest = entry_as_want page xs distinct.1 in
    (elim (x.page == page) as (λ b. (x.page == page) ≡ b
    → wants_of (option_to_list (cond b (Some x) (entry_of page xs))) ≡ cond b (want_of x ∷ filter (is_of page) (wants_of xs)) (filter (is_of page) (wants_of xs))) [
      | true ↦ λ is.
          let none : entry_of page xs ≡ None = subst (λ number. entry_of number xs ≡ None) (eqb-true x.page page is) distinct.0 in
          ap (λ wants. want_of x ∷ wants) (sym (ap (λ (o : Option Held). wants_of (option_to_list o)) none) ∙ rest)
      | false ↦ λ is. rest
    ]) refl

pub front_as_wants : (page : ℕ) (held : List Held) → ArePagesDistinct held → wants_of (front_of page held) ≡ with_first page (wants_of held)
front_as_wants page held distinct =
    map-append want_of (option_to_list (entry_of page held)) (others page held)
    ∙ ap₂ (λ front back. front ++ back) (entry_as_want page held distinct) (others_as_wants page held)

word_as_want : (page word value : ℕ) (entry : Option Held) → wants_of (option_to_list (option_map (with_word word value) entry)) ≡ wants_of (option_to_list entry)
word_as_want page word value None = refl
word_as_want page word value (Some entry) = refl

pub written_as_wants : (page word value : ℕ) (held : List Held) → ArePagesDistinct held → wants_of (written page word value held) ≡ with_first page (wants_of held)
written_as_wants page word value held distinct =
    map-append want_of (option_to_list (option_map (with_word word value) (entry_of page held))) (others page held)
    ∙ ap₂ (λ front back. front ++ back) (word_as_want page word value (entry_of page held) ∙ entry_as_want page held distinct) (others_as_wants page held)

abbrev with_held : cache.Own → Call → List Want → machine.Own
with_held own call held = record { who = own.client; capacity = own.capacity; cap = own.cap; held = held; pending = own.pending ++ call ∷ [] }

pub own_behind_read : (own : cache.Own) (page word value : ℕ) → cache.IsSound own
    → own_of (cache.after_read own (record { op = op.Read; page = page; word = word; value = value })) ≡ with_call (own_of own) op.Read page word value
own_behind_read own page word value sound =
    ap (with_held own (record { op = op.Read; page = page; word = word; value = value })) (front_as_wants page own.held sound.distinct)

pub own_behind_write : (own : cache.Own) (page word value : ℕ) → cache.IsSound own
    → own_of (cache.after_write own (record { op = op.Write; page = page; word = word; value = value })) ≡ with_call (own_of own) op.Write page word value
own_behind_write own page word value sound =
    ap (with_held own (record { op = op.Write; page = page; word = word; value = value })) (written_as_wants page word value own.held sound.distinct)
