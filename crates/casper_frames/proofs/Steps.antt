use Rattle.std.proofs.Common.{◌≡◌, ℕ, ◌-◌, Bool, true, false, cond, nat_eq, List, [], ◌∷◌, length, take, Option, Some, None, IsSome, IsNone, slice_get, option_map, refl, sym, ap, ◌∙◌, subst}
use Rattle.std.specs.Map.{lookup, lookup_entry, remove_entry}
use Rattle.std.proofs.lemmas.Bool.{eqb-true}
use Rattle.std.proofs.lemmas.List.{length-map}
use Rattle.std.proofs.lemmas.Option.{slice_get-map}
use Rattle.slab.specs.Slab.{Slab, Updates}
use Rattle.lru.specs.LruCache.{LruCache, promoted, put_entries}
use Rattle.casper_frames.specs.Keeping.{Keeping, frame_of, others, oldest, kept_with, IsSound}
use Rattle.casper_frames.specs.Stored.{frame_at, shown, AreStored, IsFree, AreApart}
use Rattle.casper_frames.proofs.KeepingLemmas.{sound-others, sound-kept_with, kept_with-again, kept_with-new, remove-absent}
use Rattle.casper_frames.proofs.StoredLemmas.{absent-shown, shown-absent, shown-at, shown-updates, stored-updates, frame_at-updates, stored_at-updates, shown-remove, stored-remove, apart-remove, free-removed, stored-at, shown-take, stored-take, apart-take, free-before}

-- what is kept, as the index and the frames show it
abbrev pub keeping_of : ℕ → Slab (List ℕ) → List (ℕ × ℕ) → Keeping
keeping_of bound frames index = record { bound = bound; kept = shown frames index }

-- what always holds of them
abbrev pub Holds : ℕ → Slab (List ℕ) → List (ℕ × ℕ) → Type 0
Holds bound frames index = IsSound (keeping_of bound frames index) × AreStored frames index × AreApart index

-- after a step they hold, and show these pages with their frames
pub record Leads (bound : ℕ) (frames : Slab (List ℕ)) (index : List (ℕ × ℕ)) (kept : List (ℕ × List ℕ)) : Type 0 where
  pub shows : shown frames index ≡ kept
  pub holds : Holds bound frames index

-- the entry of a page that is found
entry-found : (page key : ℕ) (index : List (ℕ × ℕ)) → lookup (nat_eq page) index ≡ Some key → lookup_entry (nat_eq page) index ≡ Some (page, key)
entry-found page key [] found = cc
entry-found page key (entry ∷ rest) found =
    (elim (nat_eq page entry.0) as (λ b. nat_eq page entry.0 ≡ b → cond b (Some entry.1) (lookup (nat_eq page) rest) ≡ Some key →
    cond b (Some entry) (lookup_entry (nat_eq page) rest) ≡ Some (page, key)) [
      | true ↦ λ is h.
          let here : entry.0 ≡ page = sym (eqb-true page entry.0 is) in
          let same : entry.1 ≡ key = cc in
          λ i. Some (here i, same i)
      | false ↦ λ _ h. entry-found page key rest h
    ]) refl found

entry-absent : (test : ℕ → Bool) (index : List (ℕ × ℕ)) → lookup test index ≡ None → lookup_entry test index ≡ None
entry-absent test [] none = refl
entry-absent test (entry ∷ rest) none =
    (elim (test entry.0) as (λ b. cond b (Some entry.1) (lookup test rest) ≡ None → cond b (Some entry) (lookup_entry test rest) ≡ None) [
      | true ↦ λ h. cc
      | false ↦ λ h. entry-absent test rest h
    ]) none

pub promoted-found : (page key : ℕ) (index : List (ℕ × ℕ)) → lookup (nat_eq page) index ≡ Some key →
    promoted (nat_eq page) index ≡ (page, key) ∷ remove_entry (nat_eq page) index
promoted-found page key index found = rw (entry-found page key index found) refl

pub put-absent : (index : LruCache ℕ ℕ) (page key : ℕ) → lookup (nat_eq page) index.entries ≡ None →
    put_entries nat_eq index page key ≡ (page, key) ∷ take (index.cap - 1) index.entries
put-absent index page key none = rw (entry-absent (nat_eq page) index.entries none) refl

-- a page is kept no longer
pub removed : (bound page key : ℕ) (old new : Slab (List ℕ)) (index : List (ℕ × ℕ)) → Holds bound old index → lookup (nat_eq page) index ≡ Some key →
    Updates old new key None → Leads bound new (remove_entry (nat_eq page) index) (others page (shown old index))
removed bound page key old new index holds found updates =
    let left = remove_entry (nat_eq page) index in
    let free : IsFree key left = free-removed (nat_eq page) index key holds.2 found in
    let shows : shown new left ≡ others page (shown old index) = shown-updates old new key None left updates free ∙ shown-remove old (nat_eq page) index in
    record {
      shows = shows;
      holds = (
        subst (λ kept. IsSound (record { bound = bound; kept = kept })) (sym shows) (sound-others page (keeping_of bound old index) holds.0),
        stored-updates old new key None left updates free (stored-remove old (nat_eq page) index holds.1),
        apart-remove (nat_eq page) index holds.2,
      );
    }

-- a page that is not kept
pub unmoved : (bound page : ℕ) (frames : Slab (List ℕ)) (index : List (ℕ × ℕ)) → Holds bound frames index → lookup (nat_eq page) index ≡ None →
    Leads bound frames (remove_entry (nat_eq page) index) (others page (shown frames index))
unmoved bound page frames index holds none =
    subst (λ list. Leads bound frames list (others page (shown frames index))) (sym (remove-absent (nat_eq page) index none))
    (record {
      shows = sym (remove-absent (nat_eq page) (shown frames index) (shown-absent frames (nat_eq page) index none));
      holds = holds;
    })

-- a page stands first, over entries that do not name its key
placed : (bound page key : ℕ) (frame : List ℕ) (old new : Slab (List ℕ)) (index rest : List (ℕ × ℕ)) → Holds bound old index →
    IsFree key rest → AreStored old rest → AreApart rest →
    kept_with page frame (keeping_of bound old index) ≡ (page, frame) ∷ shown old rest →
    Updates old new key (Some frame) →
    Leads bound new ((page, key) ∷ rest) (kept_with page frame (keeping_of bound old index))
placed bound page key frame old new index rest holds free stored apart is updates =
    let first : frame_at new key ≡ frame = frame_at-updates old new key frame updates in
    let later : shown new rest ≡ shown old rest = shown-updates old new key (Some frame) rest updates free in
    let shows : shown new ((page, key) ∷ rest) ≡ kept_with page frame (keeping_of bound old index) = (λ i. (page, first i) ∷ later i) ∙ sym is in
    record {
      shows = shows;
      holds = (
        subst (λ kept. IsSound (record { bound = bound; kept = kept })) (sym shows) (sound-kept_with page frame (keeping_of bound old index) holds.0),
        (stored_at-updates old new key frame updates, stored-updates old new key (Some frame) rest updates free stored),
        (free, apart),
      );
    }

-- a page that is kept takes a new frame
pub replaced : (bound page key : ℕ) (frame : List ℕ) (old new : Slab (List ℕ)) (index : List (ℕ × ℕ)) → Holds bound old index →
    lookup (nat_eq page) index ≡ Some key → Updates old new key (Some frame) →
    Leads bound new (promoted (nat_eq page) index) (kept_with page frame (keeping_of bound old index))
replaced bound page key frame old new index holds found updates =
    let rest = remove_entry (nat_eq page) index in
    let is : IsSome (lookup (nat_eq page) (shown old index)) =
    subst IsSome (shown-at old (nat_eq page) index key holds.1 found) (stored-at old (nat_eq page) index key holds.1 found) in
    subst (λ list. Leads bound new list (kept_with page frame (keeping_of bound old index))) (sym (promoted-found page key index found))
    (placed bound page key frame old new index rest holds
    (free-removed (nat_eq page) index key holds.2 found)
    (stored-remove old (nat_eq page) index holds.1)
    (apart-remove (nat_eq page) index holds.2)
    (kept_with-again page frame (keeping_of bound old index) holds.0 is ∙ ap (λ l. (page, frame) ∷ l) (sym (shown-remove old (nat_eq page) index)))
    updates)

-- a new page is kept
pub added : (page key : ℕ) (frame : List ℕ) (old new : Slab (List ℕ)) (index : LruCache ℕ ℕ) → Holds index.cap old index.entries →
    frame_of page (shown old index.entries) ≡ None → IsFree key (take (index.cap - 1) index.entries) → Updates old new key (Some frame) →
    Leads index.cap new (put_entries nat_eq index page key) (kept_with page frame (keeping_of index.cap old index.entries))
added page key frame old new index holds none free updates =
    let rest = take (index.cap - 1) index.entries in
    subst (λ list. Leads index.cap new list (kept_with page frame (keeping_of index.cap old index.entries)))
    (sym (put-absent index page key (absent-shown old (nat_eq page) index.entries none)))
    (placed index.cap page key frame old new index.entries rest holds free
    (stored-take old (index.cap - 1) index.entries holds.1)
    (apart-take (index.cap - 1) index.entries holds.2)
    (kept_with-new page frame (keeping_of index.cap old index.entries) holds.0 none ∙
    ap (λ l. (page, frame) ∷ l) (sym (shown-take old (index.cap - 1) index.entries)))
    updates)

-- a new page takes the place of the one kept longest ago
pub exchanged : (page last key : ℕ) (frame : List ℕ) (old new : Slab (List ℕ)) (index : LruCache ℕ ℕ) → Holds index.cap old index.entries →
    frame_of page (shown old index.entries) ≡ None → length (shown old index.entries) ≡ index.cap →
    slice_get index.entries (length index.entries - 1) ≡ Some (last, key) → Updates old new key (Some frame) →
    Leads index.cap new (put_entries nat_eq index page key) (kept_with page frame (keeping_of index.cap old index.entries))
exchanged page last key frame old new index holds none full at updates =
    let long : length index.entries ≡ index.cap = sym (length-map index.entries (λ (entry : ℕ × ℕ). (entry.0, frame_at old entry.1))) ∙ full in
    let free : IsFree key (take (index.cap - 1) index.entries) =
    subst (λ n. IsFree key (take (n - 1) index.entries)) long
    (free-before index.entries (length index.entries - 1) (last, key) holds.2 at) in
    added page key frame old new index holds none free updates

-- the last page of the index is the one kept longest ago
pub oldest-last : (last key : ℕ) (frames : Slab (List ℕ)) (index : List (ℕ × ℕ)) → slice_get index (length index - 1) ≡ Some (last, key) →
    oldest (shown frames index) ≡ Some last
oldest-last last key frames index at =
    let show : (ℕ × ℕ) → (ℕ × List ℕ) = λ entry. (entry.0, frame_at frames entry.1) in
    ap (λ n. option_map (λ (entry : ℕ × List ℕ). entry.0) (slice_get (shown frames index) (n - 1))) (length-map index show) ∙
    ap (option_map (λ (entry : ℕ × List ℕ). entry.0)) (slice_get-map show index (length index - 1) ∙ ap (option_map show) at)

-- a page that the index does not name is not kept
pub absent-now : (page bound : ℕ) (frames : Slab (List ℕ)) (index : List (ℕ × ℕ)) (keeping : Keeping) → lookup (nat_eq page) index ≡ None →
    keeping_of bound frames index ≡ keeping → frame_of page keeping.kept ≡ None
absent-now page bound frames index keeping none same =
    sym (ap (λ k. frame_of page k.kept) same) ∙ shown-absent frames (nat_eq page) index none

-- a page that the index names is kept
pub kept-now : (page key bound : ℕ) (frames : Slab (List ℕ)) (index : List (ℕ × ℕ)) (keeping : Keeping) → AreStored frames index →
    lookup (nat_eq page) index ≡ Some key → keeping_of bound frames index ≡ keeping → IsSome (frame_of page keeping.kept)
kept-now page key bound frames index keeping stored found same =
    subst (λ k. IsSome (frame_of page k.kept)) same
    (subst IsSome (shown-at frames (nat_eq page) index key stored found) (stored-at frames (nat_eq page) index key stored found))

pub not_both : {X : Type 0} (o : Option X) → IsNone o → IsSome o → ⊥
not_both None none is = cc
not_both (Some x) none is = cc
