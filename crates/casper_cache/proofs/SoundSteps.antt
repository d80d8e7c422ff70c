use Rattle.std.proofs.lemmas.List.{length-map}
use Rattle.std.proofs.Common.{◌≡◌, ℕ, suc, ◌+◌, ◌<◌, ◌≤◌, List, [], ◌∷◌, ◌++◌, Some, None, IsNone, length, refl, arith, length-append}
use Rattle.std.specs.Option.{option_map, option_to_list}
use Rattle.casper_words.specs.declared.page.Right.{Right}
use Rattle.casper_words.specs.declared.call.Call.{Call}
use Rattle.casper_cache.specs.declared.held.Held.{Held}
use Rattle.casper_cache.specs.Holding.{entry_of, right_of, others, front_of, written, with_word, graded, ArePagesDistinct}
use Rattle.casper_cache.specs.Own.{Own, room_of, after_read, after_write, IsSound}
use Rattle.casper_cache.proofs.Entries.{distinct-others, distinct-in_front, distinct-front_of, distinct-written, distinct-graded, length-entry-others}

-- other held pages keep a cache sound, where they are distinct and few enough
pub sound-held : (own : Own) (held : List Held) → IsSound own → ArePagesDistinct held → length held ≤ own.capacity + 4 →
    IsSound (record own { held = held })
sound-held own held sound distinct few = record {
  distinct = distinct;
  few = few;
  pending = sound.pending;
  least = sound.least;
  most = sound.most;
}

-- one more call keeps a cache sound, where there is room for it
pub sound-call : (own : Own) (call : Call) → IsSound own → 0 < room_of own → IsSound (record own { pending = own.pending ++ call ∷ [] })
sound-call own call sound room = record {
  distinct = sound.distinct;
  few = sound.few;
  pending = omega (arith, length-append own.pending (call ∷ []));
  least = sound.least;
  most = sound.most;
}

pub length-front_of : (page : ℕ) (held : List Held) → length (front_of page held) ≤ length held
length-front_of page held =
    omega (arith, length-append (option_to_list (entry_of page held)) (others page held), length-entry-others page held)

pub length-written : (page word value : ℕ) (held : List Held) → length (written page word value held) ≤ length held
length-written page word value held =
    let same : length (option_to_list (option_map (with_word word value) (entry_of page held))) ≡ length (option_to_list (entry_of page held)) =
    elim (entry_of page held) as (λ o. length (option_to_list (option_map (with_word word value) o)) ≡ length (option_to_list o)) [ None ↦ refl | Some entry ↦ refl ] in
    omega (arith, same, length-append (option_to_list (option_map (with_word word value) (entry_of page held))) (others page held), length-entry-others page held)

pub sound-front : (own : Own) (page : ℕ) → IsSound own → IsSound (record own { held = front_of page own.held })
sound-front own page sound =
    sound-held own (front_of page own.held) sound (distinct-front_of page own.held sound.distinct)
    (omega (arith, length-front_of page own.held, sound.few))

pub sound-after_read : (own : Own) (call : Call) → IsSound own → 0 < room_of own → IsSound (after_read own call)
sound-after_read own call sound room = sound-front (record own { pending = own.pending ++ call ∷ [] }) call.page (sound-call own call sound room)

pub sound-after_write : (own : Own) (call : Call) → IsSound own → 0 < room_of own → IsSound (after_write own call)
sound-after_write own call sound room =
    sound-held (record own { pending = own.pending ++ call ∷ [] }) (written call.page call.word call.value own.held) (sound-call own call sound room)
    (distinct-written call.page call.word call.value own.held sound.distinct)
    (omega (arith, length-written call.page call.word call.value own.held, sound.few))

-- an installed page keeps a cache sound
pub sound-installed : (own : Own) (entry : Held) → IsSound own → (IsNone (right_of entry.page own.held) → length own.held < own.capacity + 4) →
    IsSound (record own { held = entry ∷ others entry.page own.held })
sound-installed own entry sound few =
    sound-held own (entry ∷ others entry.page own.held) sound (distinct-in_front entry.page own.held entry refl sound.distinct)
    ((elim (entry_of entry.page own.held) as (λ o.
    (IsNone (option_map (λ e. e.right) o) → length own.held < own.capacity + 4) →
    length (option_to_list o) + length (others entry.page own.held) ≤ length own.held →
    suc (length (others entry.page own.held)) ≤ own.capacity + 4) [
      | None ↦ λ absent all. omega (arith, absent refl, all)
      | Some e ↦ λ _ all. omega (arith, all, sound.few)
    ]) few (length-entry-others entry.page own.held))

-- a page that is given up keeps a cache sound
pub sound-without : (own : Own) (page : ℕ) → IsSound own → IsSound (record own { held = others page own.held })
sound-without own page sound =
    sound-held own (others page own.held) sound (distinct-others page own.held sound.distinct)
    (omega (arith, length-entry-others page own.held, sound.few))

pub sound-graded : (own : Own) (right : Right) (page : ℕ) → IsSound own → IsSound (record own { held = graded right page own.held })
sound-graded own right page sound =
    sound-held own (graded right page own.held) sound (distinct-graded right page own.held sound.distinct)
    (rw length-map sound.few)
