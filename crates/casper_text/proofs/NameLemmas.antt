use Rattle.std.proofs.Common.{◌≡◌, ℕ, ◌↔◌, Bool, true, false, cond, leb, ◌&&◌, List, length, Option, Some, None, IsSome, IfSome, refl, sym, ap, ◌∙◌, subst, leb-true, le-leb}
use Rattle.std.specs.List.{list_all}
use Rattle.std.proofs.lemmas.Bool.{and_parts, and_from}
use Rattle.casper_words.specs.Name.{is_name_byte, IsName}
use Rattle.casper_text.specs.Name.{is_name, name_of}

pub IsName-from_test : (word : List ℕ) → is_name word ≡ true → IsName word
IsName-from_test word passes =
    let outer = and_parts (leb 1 (length word) && leb (length word) 24) (list_all is_name_byte word) passes in
    let lengths = and_parts (leb 1 (length word)) (leb (length word) 24) outer.0 in
    record { some = leb-true _ _ lengths.0; short = leb-true _ _ lengths.1; alphabet = outer.1 }

pub is_name-from_IsName : (word : List ℕ) → IsName word → is_name word ≡ true
is_name-from_IsName word is =
    and_from _ _ (and_from _ _ (le-leb 1 (length word) is.some) (le-leb (length word) 24 is.short)) is.alphabet

chosen : (b : Bool) (word bytes : List ℕ) → cond b (Some word) None ≡ Some bytes → (b ≡ true) × (word ≡ bytes)
chosen true word bytes gives = (refl, cc)
chosen false word bytes gives = cc

pub name_of-some : (word : List ℕ) → IsName word → name_of word ≡ Some word
unfolding name_of
name_of-some word is = ap (λ b. cond b (Some word) None) (is_name-from_IsName word is)

unchosen : (b : Bool) (word : List ℕ) → (b ≡ true → ⊥) → cond b (Some word) None ≡ None
unchosen true word fails = absurd (fails refl)
unchosen false word fails = refl

pub name_of-none : (word : List ℕ) → (IsName word → ⊥) → name_of word ≡ None
unfolding name_of
name_of-none word fails = unchosen (is_name word) word (λ passes. fails (IsName-from_test word passes))

name_of-parts : (word bytes : List ℕ) → name_of word ≡ Some bytes → IsName bytes × (word ≡ bytes)
unfolding name_of
name_of-parts word bytes gives =
    let both = chosen (is_name word) word bytes gives in
    (subst IsName both.1 (IsName-from_test word both.0), both.1)

-- a word is a name where it writes one, and the name is the word
pub names_are_bytes : (word bytes : List ℕ) → (name_of word ≡ Some bytes) ↔ (IsName bytes × (word ≡ bytes))
names_are_bytes word bytes = (name_of-parts word bytes, λ is. ap name_of is.1 ∙ name_of-some bytes is.0)

-- what a test for a name gives is the name that the word writes
pub name_of-tested : (word : List ℕ) (r : Option (List ℕ)) → IsSome r ↔ IsName word → IfSome r (λ name. name ≡ word) → r ≡ name_of word
name_of-tested word None exactly bytes = sym (name_of-none word (λ is. let some = exactly.1 is in cc))
name_of-tested word (Some name) exactly bytes = ap Some bytes ∙ sym (name_of-some word (exactly.0 refl))
