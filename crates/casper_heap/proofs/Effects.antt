use Rattle.std.proofs.Common.{◌≡◌, ◌≢◌, ℕ, zero, suc, ◌+◌, ◌*◌, ◌/◌, ◌%◌, ◌<◌, ◌≤◌, Bool, true, false, cond, ◌&&◌, List, [], ◌∷◌, ◌++◌, map, replicate, length, refl, sym, ◌∙◌, ap, subst, arith, inl, inr, Option, Some, None}
use Rattle.std.specs.Prelude.{◌==◌, slice_index, slice_set, nat_eq, option_map}
use Rattle.std.proofs.lemmas.Bool.{cases_Bool, cases_lt, eqb-true, eqb-false}
use Rattle.std.proofs.lemmas.Bool.Decides.{nat_tests}
use Rattle.casper_words.specs.declared.page.Ref.{Ref}
use Rattle.casper_heap.specs.Walk.{used_end, block_at, block_end, blocks_at, blocks_of, fields_in, walk_end, end_after, end_of}
use Rattle.casper_heap.specs.Objects.{Field, Number, Reference, value_of, field_of, field_place, fields_of, count_at, objects_of, with_object, with_field}
use Rattle.casper_heap.proofs.Reaching.{Reaches, apart, reached_from, same_within, none_below}
use Rattle.casper_heap.proofs.Reheading.{reheaded}
use Rattle.casper_heap.proofs.Extending.{extended, reached_ends}
use Rattle.casper_heap.proofs.Standing.{Stands, object_stands}
use Rattle.casper_heap.proofs.Contents.{fields_same, fields_stored}

-- the object at a place of a page
abbrev pub object_at : List ℕ → ℕ → Option (List Field)
object_at words place = option_map (fields_of words place) (count_at words place)

map_cond : {X Y : Type 0} (f : X → Y) (test : Bool) (x y : Option X) → option_map f (cond test x y) ≡ cond test (option_map f x) (option_map f y)
map_cond f true x y = refl
map_cond f false x y = refl

-- the words of a page, of which those of one block alone may have changed
module _ (words changed : List ℕ) (place count kind : ℕ) (stands : Stands words place count kind)
    (low : (k : ℕ) → k < place → slice_index changed k ≡ slice_index words k)
    (high : (k : ℕ) → place + count + 2 ≤ k → slice_index changed k ≡ slice_index words k) where
  other_fields : (other n : ℕ) → other ≢ place → Stands words other n 1 → fields_of changed other n ≡ fields_of words other n
  other_fields other n ne so =
      fields_same words changed other n so.some
      (λ k from below.
      elim (cases_lt other place) [
        | inl before ↦
            let ends = apart so.reached stands.reached before in
            let size : slice_index words other % 256 ≡ n = so.fields in
            low k (omega (arith, ends, size, below))
        | inr behind ↦
            let ends = apart stands.reached so.reached (omega (arith, behind, ne)) in
            let size : slice_index words place % 256 ≡ count = stands.fields in
            high k (omega (arith, ends, size, from))
      ])

  by_count : (other : ℕ) (choice : Option ℕ) → other ≢ place → count_at words other ≡ choice
      → option_map (fields_of changed other) choice ≡ option_map (fields_of words other) choice
  by_count other None ne is = refl
  by_count other (Some n) ne is = ap (λ (fields : List Field). Some fields) (other_fields other n ne (object_stands words other n is))

  -- every other object stays
  pub others_same : (other : ℕ) → other ≢ place → option_map (fields_of changed other) (count_at words other) ≡ object_at words other
  others_same other ne = by_count other (count_at words other) ne refl

  same_end : used_end changed ≡ used_end words
  same_end = ap end_of (low 0 stands.low)

  -- where the header is as it was, the blocks are
  blocks_stay : slice_index changed place ≡ slice_index words place → blocks_of changed ≡ blocks_of words
  unfolding blocks_of
  blocks_stay header =
      let size : slice_index words place % 256 ≡ count = stands.fields in
      ap (λ (end : ℕ). blocks_at changed end 1) same_end
      ∙ same_within words changed (used_end words) place
      (λ k below. elim (cases_lt k place) [
        | inl before ↦ low k before
        | inr behind ↦ let here : k ≡ place = omega arith in subst (λ (k : ℕ). slice_index changed k ≡ slice_index words k) (sym here) header
      ])
      (λ k from. high k (omega (arith, size, from))) stands.reached

  pub stored : slice_index changed place ≡ slice_index words place → (object : Option (List Field))
      → option_map (fields_of changed place) (count_at words place) ≡ object
      → (other : ℕ) → object_at changed other ≡ cond (other == place) object (object_at words other)
  stored header object is other =
      ap (λ blocks. option_map (fields_of changed other) (fields_in blocks other)) (blocks_stay header)
      ∙ elim (cases_Bool (other == place)) [
        | inl same ↦
            let equal : other ≡ place = eqb-true other place same in
            ap (λ (at : ℕ). option_map (fields_of changed at) (count_at words at)) equal ∙ is
            ∙ sym (ap (λ (test : Bool). cond test object (object_at words other)) same)
        | inr apart_from ↦
            others_same other (eqb-false other place apart_from)
            ∙ sym (ap (λ (test : Bool). cond test object (object_at words other)) apart_from)
      ]

  -- where the header is new, and has as many fields, the block is live by it
  pub headed : (now : ℕ) → now ≤ 1 → slice_index changed place % 256 ≡ count → slice_index changed place / 256 ≡ now
      → (other : ℕ) → object_at changed other ≡ cond (other == place) (cond (now == 1) (Some (fields_of changed place count)) None) (object_at words other)
  unfolding blocks_of
  headed now small fields live other =
      let counts : fields_in (blocks_at words (used_end words) 1) other ≡ count_at words other = refl in
      ap (λ (end : ℕ). option_map (fields_of changed other) (fields_in (blocks_at changed end 1) other)) same_end
      ∙ ap (option_map (fields_of changed other))
      (reheaded words changed (used_end words) place count now stands.fields fields live small low high other stands.reached)
      ∙ map_cond (fields_of changed other) (other == place) (cond (now == 1) (Some count) None) (count_at words other)
      ∙ elim (cases_Bool (other == place)) [
        | inl same ↦
            let equal : other ≡ place = eqb-true other place same in
            ap (λ (test : Bool). cond test (option_map (fields_of changed other) (cond (now == 1) (Some count) None)) (option_map (fields_of changed other) (count_at words other))) same
            ∙ ap (λ (at : ℕ). option_map (fields_of changed at) (cond (now == 1) (Some count) None)) equal
            ∙ map_cond (fields_of changed place) (now == 1) (Some count) None
            ∙ sym (ap (λ (test : Bool). cond test (cond (now == 1) (Some (fields_of changed place count)) None) (object_at words other)) same)
        | inr apart_from ↦
            ap (λ (test : Bool). cond test (option_map (fields_of changed other) (cond (now == 1) (Some count) None)) (option_map (fields_of changed other) (count_at words other))) apart_from
            ∙ others_same other (eqb-false other place apart_from)
            ∙ sym (ap (λ (test : Bool). cond test (cond (now == 1) (Some (fields_of changed place count)) None) (object_at words other)) apart_from)
      ]

-- one page has changed at one object, and the others have not
pub pages_changed : (pages changed : ℕ → List ℕ) (r : Ref) (object : Option (List Field))
    → ((at : ℕ) → (at == r.page) ≡ false → changed at ≡ pages at)
    → ((other : ℕ) → object_at (changed r.page) other ≡ cond (other == r.word) object (object_at (pages r.page) other))
    → (other : Ref) → objects_of changed other ≡ with_object (objects_of pages) r object other
pages_changed pages changed r object elsewhere here other =
    elim (cases_Bool (other.page == r.page)) [
      | inl same ↦
          let equal : other.page ≡ r.page = eqb-true other.page r.page same in
          ap (λ (page : ℕ). object_at (changed page) other.word) equal ∙ here other.word
          ∙ ap (λ (page : ℕ). cond (other.word == r.word) object (object_at (pages page) other.word)) (sym equal)
          ∙ sym (ap (λ (test : Bool). cond (test && other.word == r.word) object (object_at (pages other.page) other.word)) same)
      | inr apart_from ↦
          ap (λ (words : List ℕ). object_at words other.word) (elsewhere other.page apart_from)
          ∙ sym (ap (λ (test : Bool). cond (test && other.word == r.word) object (object_at (pages other.page) other.word)) apart_from)
    ]
