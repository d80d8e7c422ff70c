use Rattle.std.proofs.Common.{◌≡◌, ℕ, zero, suc, ◌+◌, ◌-◌, ◌<◌, ◌^◌, List, [], ◌∷◌, ◌++◌, length, get_or, drop, refl, sym, ◌∙◌, ap, subst, arith, length-drop}
use Rattle.std.proofs.lemmas.List.{append-nil, drop_all, ext_get_or, get_or-drop}
use Rattle.casper_rec.specs.declared.field.Field.{Field}
use Rattle.casper_rec.specs.Values.{with_values, FitFields}
use Rattle.casper_root.specs.Format.{body_fields, numbers_from, zero_block}

-- numbers written by a table into a block that was cleared
pub written_on_zeros : (table fields : List Field) (values block new : List ℕ) → table ≡ fields → block ≡ zero_block → new ≡ with_values table values block → new ≡ with_values fields values zero_block
written_on_zeros table fields values block new same cleared written =
    written ∙ ap (λ list. with_values list values block) same ∙ ap (λ list. with_values fields values list) cleared

-- a list of two numbers and others
pub two_and_others : (values items : List ℕ) (first second : ℕ) → length values ≡ length items + 2 → get_or values 0 0 ≡ first → get_or values 1 0 ≡ second
    → ((k : ℕ) → k < length items → get_or values (k + 2) 0 ≡ get_or items k 0) → values ≡ first ∷ second ∷ items
two_and_others [] items first second long is_first is_second others = absurd (omega arith)
two_and_others (x ∷ []) items first second long is_first is_second others = absurd (omega arith)
two_and_others (x ∷ y ∷ rest) items first second long is_first is_second others =
    let same : rest ≡ items = ext_get_or 0 rest items (omega arith) (λ k within.
    let next : suc (suc k) ≡ k + 2 = omega arith in
    ap (λ n. get_or (x ∷ y ∷ rest) n 0) next ∙ others k (omega arith)) in
    ap (λ (n : ℕ). n ∷ y ∷ rest) is_first ∙ ap (λ (n : ℕ). first ∷ n ∷ rest) is_second ∙ ap (λ (list : List ℕ). first ∷ second ∷ list) same

-- numbers below 2^32 fit fields of four bytes
pub numbers_fit : (byte count : ℕ) (values : List ℕ) → ((k : ℕ) → k < length values → get_or values k 0 < 2 ^ 32) → FitFields (numbers_from byte count) values
numbers_fit byte zero values small = tt
numbers_fit byte (suc count) [] small = tt
numbers_fit byte (suc count) (value ∷ values) small = ((λ four. small 0 (omega arith)), numbers_fit (byte + 4) count values (λ k within. small (suc k) (omega arith)))

-- a list written over a whole block
pub over_whole : (bytes block new : List ℕ) → new ≡ [] ++ bytes ++ drop 4096 block → length block ≡ 4096 → new ≡ bytes
over_whole bytes block new put long =
    put ∙ ap (λ rest. bytes ++ rest) (drop_all 4096 block (omega arith)) ∙ append-nil bytes

-- numbers in fields of four bytes are below 2^32
small_numbers : (byte count : ℕ) (values : List ℕ) (k : ℕ) → FitFields (numbers_from byte count) values → k < count → k < length values → get_or values k 0 < 2 ^ 32
small_numbers byte zero values k fit in_fields within = absurd (omega arith)
small_numbers byte (suc count) [] k fit in_fields within = absurd (omega arith)
small_numbers byte (suc count) (value ∷ values) zero fit in_fields within = fit.0 refl
small_numbers byte (suc count) (value ∷ values) (suc k) fit in_fields within = small_numbers (byte + 4) count values k fit.1 (omega arith) (omega arith)

-- each number of a body but its sequence number is below 2^32
pub small_in_body : (table : List Field) (values : List ℕ) (j : ℕ) → table ≡ body_fields → FitFields table values → length values ≡ 18 → 0 < j → j < 18 → get_or values j 0 < 2 ^ 32
small_in_body table [] j same fit long low high = absurd (omega arith)
small_in_body table (seq ∷ values) zero same fit long low high = absurd (omega arith)
small_in_body table (seq ∷ values) (suc j) same fit long low high =
    let P : List Field → Type 0 = λ fields. FitFields fields (seq ∷ values) in
    let in_body : FitFields body_fields (seq ∷ values) = subst P same fit in
    small_numbers 8 17 values j in_body.1 (omega arith) (omega arith)

-- the numbers after the first two
pub numbers_behind : (values numbers : List ℕ) → length values ≡ 18 → length numbers ≡ 16 → ((k : ℕ) → k < 16 → get_or numbers k 0 ≡ get_or values (k + 2) 0) → numbers ≡ drop 2 values
numbers_behind values numbers long size each =
    let rest : length (drop 2 values) ≡ length values - 2 = length-drop 2 values in
    ext_get_or 0 numbers (drop 2 values) (omega arith) (λ k within.
    let place : k + 2 ≡ 2 + k = omega arith in
    each k (omega arith) ∙ ap (λ n. get_or values n 0) place ∙ sym (get_or-drop 2 values k 0))
