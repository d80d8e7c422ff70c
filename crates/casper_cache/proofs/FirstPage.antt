use Rattle.std.proofs.Common.{◌≡◌, ℕ, true, eq-eqb, List, [], ◌∷◌, Some, None, slice_get, slice_index, refl, ap, ◌∙◌, subst}
use Rattle.casper_cache.specs.declared.held.Held.{Held}
use Rattle.casper_cache.specs.Holding.{is_of, entry_of, word_of, front_of, ArePagesDistinct}
use Rattle.casper_cache.proofs.Entries.{others-absent}

-- the first entry is that of its page
pub entry_of-first : (page : ℕ) (held : List Held) (entry : Held) → slice_get held 0 ≡ Some entry → entry.page ≡ page → entry_of page held ≡ Some entry
entry_of-first page [] entry at is = cc
entry_of-first page (x ∷ xs) entry at is =
    let same : x ≡ entry = cc in
    let test : is_of page x ≡ true = eq-eqb x.page page (ap (λ (e : Held). e.page) same ∙ is) in
    rw test (ap (λ (e : Held). Some e) same)

-- and the word of its page is its word
pub word_of-first : (page word : ℕ) (held : List Held) (entry : Held) → slice_get held 0 ≡ Some entry → entry.page ≡ page →
    word_of page word held ≡ slice_index entry.words word
word_of-first page word held entry at is = rw (entry_of-first page held entry at is) refl

-- the page whose entry is the first is in front already
pub front_of-first : (page : ℕ) (held : List Held) (entry : Held) → ArePagesDistinct held → slice_get held 0 ≡ Some entry → entry.page ≡ page →
    front_of page held ≡ held
front_of-first page [] entry distinct at is = cc
front_of-first page (x ∷ xs) entry distinct at is =
    let same : x ≡ entry = cc in
    let here : x.page ≡ page = ap (λ (e : Held). e.page) same ∙ is in
    let test : is_of page x ≡ true = eq-eqb x.page page here in
    rw test (ap (λ l. x ∷ l) (others-absent page xs (subst (λ q. entry_of q xs ≡ None) here distinct.0)))
