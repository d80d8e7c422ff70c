use Rattle.std.proofs.Common.{◌≡◌, ◌^◌, ◌<◌, ◌≤◌, ◌&&◌, ℕ, nat_le, arith, Bool, true, false, cond, List, [], ◌∷◌, Option, Some, None, option_map, option_and_then, ap, sym, subst, ◌∙◌, refl, codes}
use Rattle.std.specs.Fmt.{decimal}
use Rattle.std.specs.Str.{bytes_eq}
use Rattle.std.proofs.lemmas.Slice.Eq.{bytes_eq-Decides}
use Rattle.std.proofs.lemmas.Bool.{leb-true, le-leb, and_parts}
use Rattle.casper_words.specs.Name.{IsName}
use Rattle.casper_words.specs.declared.page.Ref.{Ref}
use Rattle.casper_text.specs.Laws.{reference_text}
use Rattle.casper_text.specs.Name.{name_of}
use Rattle.casper_text.specs.Number.{number_of}
use Rattle.casper_text.specs.Reference.{reference_of}
use Rattle.casper_text.proofs.NameLemmas.{names_are_bytes}
use Rattle.casper_text.proofs.NumberLemmas.{number_read_back, number_text}
use Rattle.casper_text.proofs.ReferenceLemmas.{reference_read_back, text_of_reference}
use Rattle.casper_shell.specs.declared.line.ShellLine.{ShellLine}
use Rattle.casper_shell.specs.declared.line.ShellLine.TheVariants as line
use Rattle.casper_shell.specs.Writing.{place_of, count_of, new_of, set_of, ref_of, get_of, follow_of, free_of, bind_of, unbind_of, find_of, list_of, line_of_verb}
use Rattle.casper_shell.specs.Grammar.{words_of_line, IsSmall, IsPlace, IsCount, IsLine, LinesAreReadBack, LinesHaveOneText}

-- what a chain of optional values gives, where it gives one
given : {A B : Type 0} (f : A → Option B) (o : Option A) (y : B) → option_and_then f o ≡ Some y → (x : A) × (o ≡ Some x) × (f x ≡ Some y)
given f None y gives = absurd (let h : None ≡ Some y = gives in cc)
given f (Some x) y gives = (x, refl, gives)

mapped : {A B : Type 0} (f : A → B) (o : Option A) (y : B) → option_map f o ≡ Some y → (x : A) × (o ≡ Some x) × (f x ≡ y)
mapped f None y gives = absurd (let h : None ≡ Some y = gives in cc)
mapped f (Some x) y gives = (x, refl, (let h : Some (f x) ≡ Some y = gives in cc))

chosen : {A : Type 0} (b : Bool) (x : Option A) (y : A) → cond b x None ≡ Some y → (b ≡ true) × (x ≡ Some y)
chosen true x y gives = (refl, gives)
chosen false x y gives = absurd (let h : None ≡ Some y = gives in cc)

-- how a word writes a value: what its text is, and which values have one
record Slot (A : Type 0) : Type 1 where
  pub read : List ℕ → Option A
  pub text : A → List ℕ
  pub Has : A → Type 0
  pub back : (x : A) → Has x → read (text x) ≡ Some x
  pub one : (word : List ℕ) (x : A) → read word ≡ Some x → Has x × (word ≡ text x)

abbrev small : Slot ℕ
small = record {
  read = place_of;
  text = decimal;
  Has = IsSmall;
  back = λ number below. number_read_back (2 ^ 32) number (omega arith) below;
  one = λ word number. number_text (2 ^ 32) word number (omega arith);
}

abbrev value : Slot ℕ
value = record {
  read = number_of;
  text = decimal;
  Has = λ number. number < 2 ^ 64;
  back = λ number below. number_read_back (2 ^ 64) number (omega arith) below;
  one = λ word number. number_text (2 ^ 64) word number (omega arith);
}

count_back : (n : ℕ) → IsCount n → count_of (decimal n) ≡ Some n
count_back n is =
    ap (option_and_then (λ (number : ℕ). cond (nat_le 1 number && nat_le number 64) (Some number) None)) (number_read_back (2 ^ 32) n (omega arith) (omega (arith, is.1)))
    ∙ ap (λ (b : Bool). cond (b && nat_le n 64) (Some n) None) (le-leb 1 n is.0)
    ∙ ap (λ (b : Bool). cond b (Some n) None) (le-leb n 64 is.1)

count_text : (word : List ℕ) (n : ℕ) → count_of word ≡ Some n → IsCount n × (word ≡ decimal n)
count_text word n names =
    let found = given (λ (number : ℕ). cond (nat_le 1 number && nat_le number 64) (Some number) None) (place_of word) n names in
    let test = chosen (nat_le 1 found.0 && nat_le found.0 64) (Some found.0) n found.2 in
    let same : found.0 ≡ n = (let h : Some found.0 ≡ Some n = test.1 in cc) in
    let bounds = and_parts (nat_le 1 found.0) (nat_le found.0 64) test.0 in
    let least : 1 ≤ found.0 = leb-true 1 found.0 bounds.0 in
    let most : found.0 ≤ 64 = leb-true found.0 64 bounds.1 in
    ((omega arith, omega arith), (number_text (2 ^ 32) word found.0 (omega arith) found.1).1 ∙ ap decimal same)

abbrev count : Slot ℕ
count = record { read = count_of; text = decimal; Has = IsCount; back = count_back; one = count_text }

reference_one : (word : List ℕ) (r : Ref) → reference_of word ≡ Some r → IsPlace r × (word ≡ reference_text r)
reference_one word r is = let text = text_of_reference word r is in ((text.0, text.1), text.2)

abbrev place : Slot Ref
place = record {
  read = reference_of;
  text = reference_text;
  Has = IsPlace;
  back = λ r is. reference_read_back r.page r.word is.0 is.1;
  one = reference_one;
}

abbrev name : Slot (List ℕ)
name = record {
  read = name_of;
  text = λ bytes. bytes;
  Has = IsName;
  back = λ bytes is. (names_are_bytes bytes bytes).1 (is, refl);
  one = λ word bytes. (names_are_bytes word bytes).0;
}

-- a line of one value, of two and of three is read back
back_one : {A : Type 0} (a : Slot A) (make : A → ShellLine) (x : A) → a.Has x → option_map make (a.read (a.text x)) ≡ Some (make x)
back_one a make x has = ap (option_map make) (a.back x has)

back_two : {A B : Type 0} (a : Slot A) (b : Slot B) (make : A → B → ShellLine) (x : A) (y : B) → a.Has x → b.Has y
    → option_and_then (λ (x : A). option_map (make x) (b.read (b.text y))) (a.read (a.text x)) ≡ Some (make x y)
back_two {A} a b make x y has hasy =
    ap (option_and_then (λ (x : A). option_map (make x) (b.read (b.text y)))) (a.back x has) ∙ back_one b (make x) y hasy

back_three : {A B C : Type 0} (a : Slot A) (b : Slot B) (c : Slot C) (make : A → B → C → ShellLine) (x : A) (y : B) (z : C) → a.Has x → b.Has y → c.Has z
    → option_and_then (λ (x : A). option_and_then (λ (y : B). option_map (make x y) (c.read (c.text z))) (b.read (b.text y))) (a.read (a.text x)) ≡ Some (make x y z)
back_three {A} {B} a b c make x y z has hasy hasz =
    ap (option_and_then (λ (x : A). option_and_then (λ (y : B). option_map (make x y) (c.read (c.text z))) (b.read (b.text y)))) (a.back x has)
    ∙ back_two b c (make x) y z hasy hasz

pub lines_are_read_back : LinesAreReadBack
lines_are_read_back (line.New page n) is = back_two small count (λ p n. line.New p n) page n is.0 is.1
lines_are_read_back (line.Set r i v) is = back_three place small value (λ r i v. line.Set r i v) r i v is.0 is.1 is.2
lines_are_read_back (line.SetRef r i to) is = back_three place small place (λ r i to. line.SetRef r i to) r i to is.0 is.1 is.2
lines_are_read_back (line.Get r i) is = back_two place small (λ r i. line.Get r i) r i is.0 is.1
lines_are_read_back (line.Follow r i) is = back_two place small (λ r i. line.Follow r i) r i is.0 is.1
lines_are_read_back (line.Free r) is = back_one place (λ r. line.Free r) r is
lines_are_read_back (line.Bind bytes r) is = back_two name place (λ bytes r. line.Bind bytes r) bytes r is.0 is.1
lines_are_read_back (line.Unbind bytes) is = back_one name (λ bytes. line.Unbind bytes) bytes is
lines_are_read_back (line.Find bytes) is = back_one name (λ bytes. line.Find bytes) bytes is
lines_are_read_back line.Names is = refl

-- what stands after a verb has one text
abbrev HasText : List ℕ → List (List ℕ) → ShellLine → Type 0
HasText verb rest asked = IsLine asked × (verb ∷ rest ≡ words_of_line asked)

nothing_asked : {P : Type 0} (asked : ShellLine) → None ≡ Some asked → P
nothing_asked asked asks = absurd (let h : None ≡ Some asked = asks in cc)

-- a line of one value, of two and of three has one text
one_one : {A : Type 0} (a : Slot A) (make : A → ShellLine) (verb word : List ℕ) (asked : ShellLine)
    → ((x : A) → a.Has x → HasText verb (a.text x ∷ []) (make x))
    → option_map make (a.read word) ≡ Some asked → HasText verb (word ∷ []) asked
one_one a make verb word asked made asks =
    let found = mapped make (a.read word) asked asks in
    let text = a.one word found.0 found.1 in
    subst (HasText verb (word ∷ [])) found.2 (subst (λ (w : List ℕ). HasText verb (w ∷ []) (make found.0)) (sym text.1) (made found.0 text.0))

one_two : {A B : Type 0} (a : Slot A) (b : Slot B) (make : A → B → ShellLine) (verb word next : List ℕ) (asked : ShellLine)
    → ((x : A) (y : B) → a.Has x → b.Has y → HasText verb (a.text x ∷ b.text y ∷ []) (make x y))
    → option_and_then (λ (x : A). option_map (make x) (b.read next)) (a.read word) ≡ Some asked → HasText verb (word ∷ next ∷ []) asked
one_two {A} a b make verb word next asked made asks =
    let first = given (λ (x : A). option_map (make x) (b.read next)) (a.read word) asked asks in
    let found = mapped (make first.0) (b.read next) asked first.2 in
    let text = a.one word first.0 first.1 in
    let texty = b.one next found.0 found.1 in
    subst (HasText verb (word ∷ next ∷ [])) found.2
    (subst (λ (w : List ℕ). HasText verb (w ∷ next ∷ []) (make first.0 found.0)) (sym text.1)
    (subst (λ (w : List ℕ). HasText verb (a.text first.0 ∷ w ∷ []) (make first.0 found.0)) (sym texty.1) (made first.0 found.0 text.0 texty.0)))

one_three : {A B C : Type 0} (a : Slot A) (b : Slot B) (c : Slot C) (make : A → B → C → ShellLine) (verb word next last : List ℕ) (asked : ShellLine)
    → ((x : A) (y : B) (z : C) → a.Has x → b.Has y → c.Has z → HasText verb (a.text x ∷ b.text y ∷ c.text z ∷ []) (make x y z))
    → option_and_then (λ (x : A). option_and_then (λ (y : B). option_map (make x y) (c.read last)) (b.read next)) (a.read word) ≡ Some asked
    → HasText verb (word ∷ next ∷ last ∷ []) asked
one_three {A} {B} a b c make verb word next last asked made asks =
    let first = given (λ (x : A). option_and_then (λ (y : B). option_map (make x y) (c.read last)) (b.read next)) (a.read word) asked asks in
    let second = given (λ (y : B). option_map (make first.0 y) (c.read last)) (b.read next) asked first.2 in
    let found = mapped (make first.0 second.0) (c.read last) asked second.2 in
    let text = a.one word first.0 first.1 in
    let texty = b.one next second.0 second.1 in
    let textz = c.one last found.0 found.1 in
    subst (HasText verb (word ∷ next ∷ last ∷ [])) found.2
    (subst (λ (w : List ℕ). HasText verb (w ∷ next ∷ last ∷ []) (make first.0 second.0 found.0)) (sym text.1)
    (subst (λ (w : List ℕ). HasText verb (a.text first.0 ∷ w ∷ last ∷ []) (make first.0 second.0 found.0)) (sym texty.1)
    (subst (λ (w : List ℕ). HasText verb (a.text first.0 ∷ b.text second.0 ∷ w ∷ []) (make first.0 second.0 found.0)) (sym textz.1)
    (made first.0 second.0 found.0 text.0 texty.0 textz.0))))

new_text : (rest : List (List ℕ)) (asked : ShellLine) → new_of rest ≡ Some asked → HasText (codes "new") rest asked
new_text [] asked asks = nothing_asked asked asks
new_text (page ∷ []) asked asks = nothing_asked asked asks
new_text (page ∷ fields ∷ []) asked asks =
    one_two small count (λ p n. line.New p n) (codes "new") page fields asked (λ p n has hasn. ((has, hasn), refl)) asks
new_text (page ∷ fields ∷ more ∷ rest) asked asks = nothing_asked asked asks

set_text : (rest : List (List ℕ)) (asked : ShellLine) → set_of rest ≡ Some asked → HasText (codes "set") rest asked
set_text [] asked asks = nothing_asked asked asks
set_text (object ∷ []) asked asks = nothing_asked asked asks
set_text (object ∷ field ∷ []) asked asks = nothing_asked asked asks
set_text (object ∷ field ∷ written ∷ []) asked asks =
    one_three place small value (λ r i v. line.Set r i v) (codes "set") object field written asked (λ r i v has hasi hasv. ((has, hasi, hasv), refl)) asks
set_text (object ∷ field ∷ written ∷ more ∷ rest) asked asks = nothing_asked asked asks

ref_text : (rest : List (List ℕ)) (asked : ShellLine) → ref_of rest ≡ Some asked → HasText (codes "ref") rest asked
ref_text [] asked asks = nothing_asked asked asks
ref_text (object ∷ []) asked asks = nothing_asked asked asks
ref_text (object ∷ field ∷ []) asked asks = nothing_asked asked asks
ref_text (object ∷ field ∷ target ∷ []) asked asks =
    one_three place small place (λ r i to. line.SetRef r i to) (codes "ref") object field target asked (λ r i to has hasi hasto. ((has, hasi, hasto), refl)) asks
ref_text (object ∷ field ∷ target ∷ more ∷ rest) asked asks = nothing_asked asked asks

get_text : (rest : List (List ℕ)) (asked : ShellLine) → get_of rest ≡ Some asked → HasText (codes "get") rest asked
get_text [] asked asks = nothing_asked asked asks
get_text (object ∷ []) asked asks = nothing_asked asked asks
get_text (object ∷ field ∷ []) asked asks =
    one_two place small (λ r i. line.Get r i) (codes "get") object field asked (λ r i has hasi. ((has, hasi), refl)) asks
get_text (object ∷ field ∷ more ∷ rest) asked asks = nothing_asked asked asks

follow_text : (rest : List (List ℕ)) (asked : ShellLine) → follow_of rest ≡ Some asked → HasText (codes "follow") rest asked
follow_text [] asked asks = nothing_asked asked asks
follow_text (object ∷ []) asked asks = nothing_asked asked asks
follow_text (object ∷ field ∷ []) asked asks =
    one_two place small (λ r i. line.Follow r i) (codes "follow") object field asked (λ r i has hasi. ((has, hasi), refl)) asks
follow_text (object ∷ field ∷ more ∷ rest) asked asks = nothing_asked asked asks

free_text : (rest : List (List ℕ)) (asked : ShellLine) → free_of rest ≡ Some asked → HasText (codes "free") rest asked
free_text [] asked asks = nothing_asked asked asks
free_text (object ∷ []) asked asks = one_one place (λ r. line.Free r) (codes "free") object asked (λ r has. (has, refl)) asks
free_text (object ∷ more ∷ rest) asked asks = nothing_asked asked asks

bind_text : (rest : List (List ℕ)) (asked : ShellLine) → bind_of rest ≡ Some asked → HasText (codes "bind") rest asked
bind_text [] asked asks = nothing_asked asked asks
bind_text (word ∷ []) asked asks = nothing_asked asked asks
bind_text (word ∷ object ∷ []) asked asks =
    one_two name place (λ bytes r. line.Bind bytes r) (codes "bind") word object asked (λ bytes r has hasr. ((has, hasr), refl)) asks
bind_text (word ∷ object ∷ more ∷ rest) asked asks = nothing_asked asked asks

unbind_text : (rest : List (List ℕ)) (asked : ShellLine) → unbind_of rest ≡ Some asked → HasText (codes "unbind") rest asked
unbind_text [] asked asks = nothing_asked asked asks
unbind_text (word ∷ []) asked asks = one_one name (λ bytes. line.Unbind bytes) (codes "unbind") word asked (λ bytes has. (has, refl)) asks
unbind_text (word ∷ more ∷ rest) asked asks = nothing_asked asked asks

find_text : (rest : List (List ℕ)) (asked : ShellLine) → find_of rest ≡ Some asked → HasText (codes "find") rest asked
find_text [] asked asks = nothing_asked asked asks
find_text (word ∷ []) asked asks = one_one name (λ bytes. line.Find bytes) (codes "find") word asked (λ bytes has. (has, refl)) asks
find_text (word ∷ more ∷ rest) asked asks = nothing_asked asked asks

list_text : (rest : List (List ℕ)) (asked : ShellLine) → list_of rest ≡ Some asked → HasText (codes "names") rest asked
list_text [] asked asks =
    let same : line.Names ≡ asked = (let h : Some line.Names ≡ Some asked = asks in cc) in
    subst (HasText (codes "names") []) same (tt, refl)
list_text (more ∷ rest) asked asks = nothing_asked asked asks

-- of a verb that is one word or another, what is asked for is what stands after the one that it is
by_verb : (verb known : List ℕ) (rest : List (List ℕ)) (asked : ShellLine) (behind other : Option ShellLine)
    → (behind ≡ Some asked → HasText known rest asked) → (other ≡ Some asked → HasText verb rest asked)
    → cond (bytes_eq verb known) behind other ≡ Some asked → HasText verb rest asked
by_verb verb known rest asked behind other here there asks = by_test (bytes_eq verb known) (bytes_eq-Decides verb known).0 asks
  where
    by_test : (b : Bool) → (b ≡ true → verb ≡ known) → cond b behind other ≡ Some asked → HasText verb rest asked
    by_test true same gives = subst (λ (v : List ℕ). HasText v rest asked) (sym (same refl)) (here gives)
    by_test false same gives = there gives

line_text : (verb : List ℕ) (rest : List (List ℕ)) (asked : ShellLine) → line_of_verb verb rest ≡ Some asked → HasText verb rest asked
line_text verb rest asked =
    by_verb verb (codes "new") rest asked (new_of rest) _ (new_text rest asked)
    (by_verb verb (codes "set") rest asked (set_of rest) _ (set_text rest asked)
    (by_verb verb (codes "ref") rest asked (ref_of rest) _ (ref_text rest asked)
    (by_verb verb (codes "get") rest asked (get_of rest) _ (get_text rest asked)
    (by_verb verb (codes "follow") rest asked (follow_of rest) _ (follow_text rest asked)
    (by_verb verb (codes "free") rest asked (free_of rest) _ (free_text rest asked)
    (by_verb verb (codes "bind") rest asked (bind_of rest) _ (bind_text rest asked)
    (by_verb verb (codes "unbind") rest asked (unbind_of rest) _ (unbind_text rest asked)
    (by_verb verb (codes "find") rest asked (find_of rest) _ (find_text rest asked)
    (by_verb verb (codes "names") rest asked (list_of rest) None (list_text rest asked) (nothing_asked asked))))))))))

pub lines_have_one_text : LinesHaveOneText
lines_have_one_text [] asked asks = nothing_asked asked asks
lines_have_one_text (verb ∷ rest) asked asks = line_text verb rest asked asks
