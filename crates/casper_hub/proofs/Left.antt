use Rattle.std.proofs.Common.{◌≡◌, ℕ, ◌∙◌, true, false, cond, not, eq-eqb, List, [], ◌∷◌, Option, Some, None, filter_map, option_and_then, option_map, refl, sym, ap, subst}
use Rattle.std.specs.List.{cons_option}
use Rattle.std.proofs.lemmas.Bool.{eqb-true, eqb-false}
use Rattle.casper_words.specs.declared.page.Right.{Right}
use Rattle.casper_words.specs.declared.page.Right.TheVariants as may
use Rattle.casper_cache.specs.declared.held.Held.{Held}
use Rattle.casper_cache.specs.Holding.{is_of, entry_of, right_of, words_of, others, lowered, with_right, ArePagesDistinct}
use Rattle.casper_cache.proofs.Entries.{entry_of-page}
use Rattle.casper_hub.specs.Given.{left_of, kept_as, Falls}

-- what is left of an entry is of its page
pub left_of-page : (before after : Option Right) (entry left : Held) → left_of before after entry ≡ Some left → left.page ≡ entry.page
left_of-page None after entry left e = let same : entry ≡ left = cc in ap (λ (h : Held). h.page) (sym same)
left_of-page (Some right) None entry left e = cc
left_of-page (Some right) (Some now) entry left e =
    let same : record entry { right = now } ≡ left = cc in
    ap (λ (h : Held). h.page) (sym same)

-- and has its words
left_of-words : (before after : Option Right) (entry left : Held) → left_of before after entry ≡ Some left → left.words ≡ entry.words
left_of-words None after entry left e = let same : entry ≡ left = cc in ap (λ (h : Held). h.words) (sym same)
left_of-words (Some right) None entry left e = cc
left_of-words (Some right) (Some now) entry left e =
    let same : record entry { right = now } ≡ left = cc in
    ap (λ (h : Held). h.words) (sym same)

-- where nothing is left of one entry of a page, nothing is left of another
left_of-gone : (before after : Option Right) (entry other : Held) → left_of before after entry ≡ None → left_of before after other ≡ None
left_of-gone None after entry other e = cc
left_of-gone (Some right) None entry other e = refl
left_of-gone (Some right) (Some now) entry other e = cc

-- an entry with the right that its client has is left as it is
left_of-itself : (right : Option Right) (entry : Held) → ((held : Right) → right ≡ Some held → entry.right ≡ held) → left_of right right entry ≡ Some entry
left_of-itself None entry same = refl
left_of-itself (Some right) entry same = ap (λ (r : Right). Some (record entry { right = r })) (sym (same right refl))

-- what is left after two falls of a right is what is left after both
left_of-twice : (first second third : Option Right) (entry left : Held) → Falls first second → Falls second third →
    left_of first second entry ≡ Some left → left_of second third left ≡ left_of first third entry
left_of-twice None second third entry left f g e =
    let was : second ≡ None = f in
    let now : third ≡ None = subst (λ (o : Option Right). Falls o third) was g in
    let same : entry ≡ left = cc in
    ap (λ (o : Option Right). left_of o third left) was ∙ ap (λ (h : Held). Some h) (sym same)
left_of-twice (Some right) None third entry left f g e = cc
left_of-twice (Some right) (Some now) third entry left f g e =
    let same : record entry { right = now } ≡ left = cc in
    ap (λ (h : Held). left_of (Some now) third h) (sym same) ∙ again third
  where
    again : (o : Option Right) → option_map (λ (r : Right). record (record entry { right = now }) { right = r }) o ≡ option_map (λ (r : Right). record entry { right = r }) o
    again None = refl
    again (Some r) = refl

-- nothing is left after two falls where nothing is left after the first
left_of-gone_twice : (first second third : Option Right) (entry : Held) → Falls second third →
    left_of first second entry ≡ None → left_of first third entry ≡ None
left_of-gone_twice None second third entry g e = cc
left_of-gone_twice (Some right) None third entry g e = ap (λ (o : Option Right). left_of (Some right) o entry) g
left_of-gone_twice (Some right) (Some now) third entry g e = cc

-- the entry of a page among what is left is what is left of its entry
pub entry_of-kept : (before after : ℕ → Option Right) (page : ℕ) (held : List Held) →
    entry_of page (filter_map (kept_as before after) held) ≡ option_and_then (kept_as before after) (entry_of page held)
entry_of-kept before after page [] = refl
entry_of-kept before after page (x ∷ xs) =
    let rest : entry_of page (filter_map (kept_as before after) xs) ≡ option_and_then (kept_as before after) (entry_of page xs) = entry_of-kept before after page xs in
    (elim (is_of page x) as (λ b. is_of page x ≡ b →
    entry_of page (cons_option (kept_as before after x) (filter_map (kept_as before after) xs)) ≡ option_and_then (kept_as before after) (cond b (Some x) (entry_of page xs))) [
      | true ↦ λ here.
          (elim (kept_as before after x) as (λ o. kept_as before after x ≡ o → entry_of page (cons_option o (filter_map (kept_as before after) xs)) ≡ o) [
            | None ↦ λ gone. rest ∙ none_left gone (eqb-true x.page page here) (entry_of page xs) (λ entry is. entry_of-page page xs entry is)
            | Some left ↦ λ is.
                let of : is_of page left ≡ true = eq-eqb left.page page (left_of-page (before x.page) (after x.page) x left is ∙ eqb-true x.page page here) in
                rw of refl
          ]) refl
      | false ↦ λ other.
          (elim (kept_as before after x) as (λ o. kept_as before after x ≡ o → entry_of page (cons_option o (filter_map (kept_as before after) xs)) ≡ option_and_then (kept_as before after) (entry_of page xs)) [
            | None ↦ λ _. rest
            | Some left ↦ λ is.
                let same : is_of page left ≡ is_of page x = ap (λ (p : ℕ). is_of page (record x { page = p })) (left_of-page (before x.page) (after x.page) x left is) in
                rw (same, other) rest
          ]) refl
    ]) refl
  where
    none_left : kept_as before after x ≡ None → x.page ≡ page → (o : Option Held) → ((entry : Held) → o ≡ Some entry → entry.page ≡ page) → option_and_then (kept_as before after) o ≡ None
    none_left gone at None of = refl
    none_left gone at (Some entry) of =
        let same : x.page ≡ entry.page = at ∙ sym (of entry refl) in
        let moved : left_of (before entry.page) (after entry.page) x ≡ None = subst (λ (q : ℕ). left_of (before q) (after q) x ≡ None) same gone in
        left_of-gone (before entry.page) (after entry.page) x entry moved

-- the pages of what is left are distinct
pub distinct-kept : (before after : ℕ → Option Right) (held : List Held) → ArePagesDistinct held → ArePagesDistinct (filter_map (kept_as before after) held)
distinct-kept before after [] distinct = tt
distinct-kept before after (x ∷ xs) distinct =
    let rest : ArePagesDistinct (filter_map (kept_as before after) xs) = distinct-kept before after xs distinct.1 in
    (elim (kept_as before after x) as (λ o. kept_as before after x ≡ o → ArePagesDistinct (cons_option o (filter_map (kept_as before after) xs))) [
      | None ↦ λ _. rest
      | Some left ↦ λ is. (
        ap (λ (p : ℕ). entry_of p (filter_map (kept_as before after) xs)) (left_of-page (before x.page) (after x.page) x left is)
            ∙ entry_of-kept before after x.page xs ∙ ap (option_and_then (kept_as before after)) distinct.0,
        rest,
      )
    ]) refl

-- each entry has the right that its client has to the page, if it has one
abbrev pub AreAsHeld : (ℕ → Option Right) → List Held → Type 0
AreAsHeld rights [] = Unit {0}
AreAsHeld rights (entry ∷ rest) = (kept_as rights rights entry ≡ Some entry) × AreAsHeld rights rest

-- a list of distinct pages is so, where each right of the client is that of its entry
pub are_as_held : (rights : ℕ → Option Right) (held : List Held) → ArePagesDistinct held →
    ((page : ℕ) (right found : Right) → rights page ≡ Some right → right_of page held ≡ Some found → found ≡ right) → AreAsHeld rights held
are_as_held rights [] distinct all = tt
are_as_held rights (x ∷ xs) distinct all = (
  left_of-itself (rights x.page) x (λ right is. all x.page right x.right is first),
  are_as_held rights xs distinct.1 (λ page right found is e. all page right found is (behind page found e)),
)
  where
    first : right_of x.page (x ∷ xs) ≡ Some x.right
    first = let here : is_of x.page x ≡ true = eq-eqb x.page x.page refl in rw here refl

    behind : (page : ℕ) (found : Right) → right_of page xs ≡ Some found → right_of page (x ∷ xs) ≡ Some found
    behind page found e =
        (elim (is_of page x) as (λ b. is_of page x ≡ b → option_map (λ (h : Held). h.right) (cond b (Some x) (entry_of page xs)) ≡ Some found) [
          | true ↦ λ here.
              let absent : entry_of page xs ≡ None = subst (λ (q : ℕ). entry_of q xs ≡ None) (eqb-true x.page page here) distinct.0 in
              cc
          | false ↦ λ _. e
        ]) refl

-- entries with the rights of their client are all left, where the rights stay
pub kept-itself : (rights : ℕ → Option Right) (held : List Held) → AreAsHeld rights held → filter_map (kept_as rights rights) held ≡ held
kept-itself rights [] all = refl
kept-itself rights (x ∷ xs) all =
    ap (λ (o : Option Held). cons_option o (filter_map (kept_as rights rights) xs)) all.0 ∙ ap (λ (l : List Held). x ∷ l) (kept-itself rights xs all.1)

-- what is left after two falls of all rights is what is left after both
pub kept-twice : (first second third : ℕ → Option Right) (held : List Held) → ((page : ℕ) → Falls (first page) (second page)) → ((page : ℕ) → Falls (second page) (third page)) →
    filter_map (kept_as second third) (filter_map (kept_as first second) held) ≡ filter_map (kept_as first third) held
kept-twice first second third [] f g = refl
kept-twice first second third (x ∷ xs) f g =
    let rest : filter_map (kept_as second third) (filter_map (kept_as first second) xs) ≡ filter_map (kept_as first third) xs = kept-twice first second third xs f g in
    (elim (kept_as first second x) as (λ o. kept_as first second x ≡ o →
    filter_map (kept_as second third) (cons_option o (filter_map (kept_as first second) xs)) ≡ cons_option (kept_as first third x) (filter_map (kept_as first third) xs)) [
      | None ↦ λ gone. rest ∙ ap (λ (o : Option Held). cons_option o (filter_map (kept_as first third) xs)) (sym (left_of-gone_twice (first x.page) (second x.page) (third x.page) x (g x.page) gone))
      | Some left ↦ λ is.
          let at : left.page ≡ x.page = left_of-page (first x.page) (second x.page) x left is in
          let same : kept_as second third left ≡ kept_as first third x =
          ap (λ (q : ℕ). left_of (second q) (third q) left) at ∙ left_of-twice (first x.page) (second x.page) (third x.page) x left (f x.page) (g x.page) is in
          ap (λ (o : Option Held). cons_option o (filter_map (kept_as second third) (filter_map (kept_as first second) xs))) same
          ∙ ap (λ (l : List Held). cons_option (kept_as first third x) l) rest
    ]) refl

-- one page lowered, where its right is now the right to read
pub kept-lowered : (before after : ℕ → Option Right) (page : ℕ) (right : Right) (held : List Held) →
    before page ≡ Some right → after page ≡ Some may.Read → ((q : ℕ) → (q ≡ page → ⊥) → after q ≡ before q) → AreAsHeld before held →
    lowered page held ≡ filter_map (kept_as before after) held
kept-lowered before after page right [] was now same all = refl
kept-lowered before after page right (x ∷ xs) was now same all =
    let rest : lowered page xs ≡ filter_map (kept_as before after) xs = kept-lowered before after page right xs was now same all.1 in
    (elim (is_of page x) as (λ b. is_of page x ≡ b → cond b (with_right may.Read x) x ∷ lowered page xs ≡ cons_option (kept_as before after x) (filter_map (kept_as before after) xs)) [
      | true ↦ λ here.
          let at : x.page ≡ page = eqb-true x.page page here in
          let left : kept_as before after x ≡ Some (with_right may.Read x) =
          ap (λ (q : ℕ). left_of (before q) (after q) x) at ∙ ap (λ (o : Option Right). left_of o (after page) x) was ∙ ap (λ (o : Option Right). left_of (Some right) o x) now in
          ap (λ (l : List Held). with_right may.Read x ∷ l) rest ∙ ap (λ (o : Option Held). cons_option o (filter_map (kept_as before after) xs)) (sym left)
      | false ↦ λ other.
          let left : kept_as before after x ≡ Some x = ap (λ (o : Option Right). left_of (before x.page) o x) (same x.page (eqb-false x.page page other)) ∙ all.0 in
          ap (λ (l : List Held). x ∷ l) rest ∙ ap (λ (o : Option Held). cons_option o (filter_map (kept_as before after) xs)) (sym left)
    ]) refl

-- one page dropped, where its right is gone
pub kept-others : (before after : ℕ → Option Right) (page : ℕ) (right : Right) (held : List Held) →
    before page ≡ Some right → after page ≡ None → ((q : ℕ) → (q ≡ page → ⊥) → after q ≡ before q) → AreAsHeld before held →
    others page held ≡ filter_map (kept_as before after) held
kept-others before after page right [] was now same all = refl
kept-others before after page right (x ∷ xs) was now same all =
    let rest : others page xs ≡ filter_map (kept_as before after) xs = kept-others before after page right xs was now same all.1 in
    (elim (is_of page x) as (λ b. is_of page x ≡ b → cond (not b) (x ∷ others page xs) (others page xs) ≡ cons_option (kept_as before after x) (filter_map (kept_as before after) xs)) [
      | true ↦ λ here.
          let at : x.page ≡ page = eqb-true x.page page here in
          let left : kept_as before after x ≡ None =
          ap (λ (q : ℕ). left_of (before q) (after q) x) at ∙ ap (λ (o : Option Right). left_of o (after page) x) was ∙ ap (λ (o : Option Right). left_of (Some right) o x) now in
          rest ∙ ap (λ (o : Option Held). cons_option o (filter_map (kept_as before after) xs)) (sym left)
      | false ↦ λ other.
          let left : kept_as before after x ≡ Some x = ap (λ (o : Option Right). left_of (before x.page) o x) (same x.page (eqb-false x.page page other)) ∙ all.0 in
          ap (λ (l : List Held). x ∷ l) rest ∙ ap (λ (o : Option Held). cons_option o (filter_map (kept_as before after) xs)) (sym left)
    ]) refl

-- the words of what is left are those that were held
pub words-kept : (before after : ℕ → Option Right) (page : ℕ) (held : List Held) (words : List ℕ) →
    words_of page (filter_map (kept_as before after) held) ≡ Some words → words_of page held ≡ Some words
words-kept before after page held words e =
    of_left (entry_of page held) (ap (option_map (λ (h : Held). h.words)) (sym (entry_of-kept before after page held)) ∙ e)
  where
    of_left : (o : Option Held) → option_map (λ (h : Held). h.words) (option_and_then (kept_as before after) o) ≡ Some words → option_map (λ (h : Held). h.words) o ≡ Some words
    of_left None e = e
    of_left (Some entry) e =
        (elim (kept_as before after entry) as (λ o. kept_as before after entry ≡ o → option_map (λ (h : Held). h.words) o ≡ Some words → Some entry.words ≡ Some words) [
          | None ↦ λ _ h. cc
          | Some left ↦ λ is h. ap (λ (w : List ℕ). Some w) (sym (left_of-words (before entry.page) (after entry.page) entry left is)) ∙ h
        ]) refl e
