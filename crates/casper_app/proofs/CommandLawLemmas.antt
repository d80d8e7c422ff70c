use Rattle.std.proofs.Common.{◌≡◌, ◌≢◌, ◌⊎◌, ◌≤◌, ◌<◌, ◌^◌, ◌==◌, ◌&&◌, ◌||◌, ◌++◌, ◌∙◌, ℕ, Bool, true, false, not, cond, List, [], ◌∷◌, Option, Some, None, Result, Ok, Err, get_or, nat_eq, nat_le, codes, refl, sym, ap, subst, inl, inr, arith, drop}
use Rattle.std.specs.Prelude.{⊤, Contains, option_map, option_and_then}
use Rattle.std.specs.Fmt.{decimal}
use Rattle.std.specs.List.{starts_with, list_any}
use Rattle.std.specs.Str.{bytes_eq}
use Rattle.std.proofs.lemmas.Bool.{leb-true, le-leb, and_parts, and_from, false_from_ne_true, not_from_false}
use Rattle.std.proofs.lemmas.Bool.Decides.{Decides-eqb, nat_tests}
use Rattle.std.proofs.lemmas.Fmt.{digits_decimal, decimal_nonempty}
use Rattle.std.proofs.lemmas.Slice.Eq.{bytes_eq-Decides, starts_is}
use Rattle.casper_text.specs.Number.{number_of}
use Rattle.casper_text.proofs.NumberLemmas.{digits_model, first_digit, number_read_back, number_text}
use Rattle.casper_turns.proofs.Lists.{any_found, any_of, none_passes, contains_here}
use Rattle.casper_app.specs.declared.cause.Cause.{Cause}
use Rattle.casper_app.specs.declared.cause.Cause.TheVariants as cause
use Rattle.casper_app.specs.declared.command.Backing.TheVariants as backing
use Rattle.casper_app.specs.declared.command.Command.{Command}
use Rattle.casper_app.specs.declared.command.Command.TheVariants as command
use Rattle.casper_app.specs.Command.{audit_of, check_of, command_of, commands, format_of, is_command, is_option, is_store_name, known_of, or_usage, pages_from, pages_in, replay_of, replay_over}
use Rattle.casper_app.specs.CommandLaws.{unbuilt_commands, BeginsWithHyphen, HasOption, IsName, IsUsage, IsUnbuiltCommand, IsCommandText, WordsAreSorted}
use Rattle.casper_app.specs.Schedule.{place_of}

-- what words are, by what they are said to ask for; of those that are said to ask for nothing no more is told
abbrev SortedAs : List (List ℕ) → Result Command Cause → Type 0
SortedAs list (Ok asked) = IsCommandText list asked
SortedAs list (Err cause.Usage) = ⊤
SortedAs list (Err cause.Read) = ⊥
SortedAs list (Err cause.Write) = ⊥
SortedAs list (Err cause.Disk) = ⊥
SortedAs list (Err (cause.Refused refusal)) = ⊥
SortedAs list (Err cause.Memory) = ⊥
SortedAs list (Err (cause.BadLine n)) = ⊥
SortedAs list (Err (cause.Illegal at rule)) = ⊥
SortedAs list (Err (cause.Unbuilt n)) = (n ≡ 0) × IsUnbuiltCommand list

-- a word that passes the test of one in a list is that one
is_in : (words : List (List ℕ)) (word : List ℕ) → list_any (bytes_eq word) words ≡ true → Contains words word
is_in words word some =
    let found = any_found (bytes_eq word) words some in
    subst (λ (w : List ℕ). Contains words w) (sym ((bytes_eq-Decides word found.0).0 found.2)) found.1

in_is : (words : List (List ℕ)) (word : List ℕ) → Contains words word → list_any (bytes_eq word) words ≡ true
in_is words word inside = any_of (bytes_eq word) words word inside ((bytes_eq-Decides word word).1 refl)

-- options
hyphen_of : (word : List ℕ) → is_option word ≡ true → BeginsWithHyphen word
hyphen_of [] is = cc
hyphen_of (byte ∷ bytes) is = (bytes, ap (λ (b : ℕ). b ∷ bytes) ((Decides-eqb byte 45).0 is))

no_hyphen_of : (word : List ℕ) → is_option word ≡ false → BeginsWithHyphen word → ⊥
no_hyphen_of word none hyphen = let is : is_option word ≡ true = ap is_option hyphen.1 in (let both : false ≡ true = sym none ∙ is in cc)

no_option_of : (word : List ℕ) → (BeginsWithHyphen word → ⊥) → is_option word ≡ false
no_option_of word none = false_from_ne_true (is_option word) (λ is. none (hyphen_of word is))

digit_no_hyphen : (byte : ℕ) → 48 ≤ byte → (byte == 45) ≡ false
digit_no_hyphen byte least = grind (arith, nat_tests)

digits_no_option : (word : List ℕ) → 48 ≤ get_or word 0 0 → is_option word ≡ false
digits_no_option [] least = refl
digits_no_option (byte ∷ bytes) least = digit_no_hyphen byte least

-- a number's text begins with a digit, and so with no hyphen
decimal_no_option : (n : ℕ) → n < 2 ^ 64 → is_option (decimal n) ≡ false
decimal_no_option n fits = digits_no_option (decimal n) (first_digit (decimal n) (digits_decimal digits_model n fits) (decimal_nonempty n fits)).0

-- what begins with `mem:`
memory_begins : (text : List ℕ) → starts_with nat_eq (codes "mem:" ++ text) (codes "mem:") ≡ true
memory_begins text = (starts_is Decides-eqb (codes "mem:" ++ text) (codes "mem:") _ refl).1 text refl

no_memory : (store : List ℕ) → starts_with nat_eq store (codes "mem:") ≡ false → (text : List ℕ) → store ≢ codes "mem:" ++ text
no_memory store none text same =
    let starts : starts_with nat_eq store (codes "mem:") ≡ true = ap (λ (s : List ℕ). starts_with nat_eq s (codes "mem:")) same ∙ memory_begins text in
    let clash : false ≡ true = sym none ∙ starts in cc

unlike_memory_of : (store : List ℕ) → ((text : List ℕ) → store ≢ codes "mem:" ++ text) → starts_with nat_eq store (codes "mem:") ≡ false
unlike_memory_of store unlike =
    false_from_ne_true (starts_with nat_eq store (codes "mem:")) (λ starts. unlike (drop 4 store) ((starts_is Decides-eqb store (codes "mem:") _ refl).0 starts))

-- names
false_from_not : (test : Bool) → not test ≡ true → test ≡ false
false_from_not false is = refl
false_from_not true is = cc

name_of : (word : List ℕ) → is_store_name word ≡ true → is_option word ≡ false → IsName word
name_of [] is none = cc
name_of (byte ∷ bytes) is none = record {
  some = λ empty. cc;
  unlike_memory = no_memory (byte ∷ bytes) (false_from_not (starts_with nat_eq (byte ∷ bytes) (codes "mem:")) is);
  no_option = no_hyphen_of (byte ∷ bytes) none;
}

name_is : (word : List ℕ) → IsName word → is_store_name word ≡ true
name_is [] named = absurd (named.some refl)
name_is (byte ∷ bytes) named = not_from_false (starts_with nat_eq (byte ∷ bytes) (codes "mem:")) (unlike_memory_of (byte ∷ bytes) named.unlike_memory)

-- a replay
sorted_replay : (rest : List (List ℕ)) → list_any is_option rest ≡ false → SortedAs (codes "replay" ∷ rest) (or_usage (replay_of rest))
sorted_replay [] none = tt
sorted_replay (store ∷ next ∷ more) none = tt
sorted_replay (store ∷ []) none = by_front (starts_with nat_eq store (codes "mem:")) refl
  where
    by_number : (text : List ℕ) → store ≡ codes "mem:" ++ text → (found : Option ℕ) → number_of text ≡ found
        → SortedAs (codes "replay" ∷ store ∷ []) (or_usage (option_map replay_over (option_and_then pages_from found)))
    by_number text same None reads = tt
    by_number text same (Some number) reads = by_range (nat_le 1 number && nat_le number 16384) refl
      where
        by_range : (test : Bool) → (nat_le 1 number && nat_le number 16384) ≡ test
            → SortedAs (codes "replay" ∷ store ∷ []) (or_usage (option_map replay_over (cond test (Some (backing.Memory number)) None)))
        by_range false out = tt
        by_range true within =
            let parts = and_parts (nat_le 1 number) (nat_le number 16384) within in
            inr (inl (
              number,
              leb-true 1 number parts.0,
              leb-true number 16384 parts.1,
              refl,
              ap (λ (s : List ℕ). codes "replay" ∷ s ∷ []) same
                  ∙ ap (λ (t : List ℕ). codes "replay" ∷ (codes "mem:" ++ t) ∷ []) (number_text (2 ^ 64) text number (omega arith) reads).1,
            ))

    by_name : (test : Bool) → is_store_name store ≡ test → SortedAs (codes "replay" ∷ store ∷ []) (or_usage (option_map replay_over (cond test (Some backing.Store) None)))
    by_name false out = tt
    by_name true is = inr (inr (inl (store, name_of store is (none_passes is_option (store ∷ []) store none (contains_here store [])), refl, refl)))

    by_front : (test : Bool) → starts_with nat_eq store (codes "mem:") ≡ test
        → SortedAs (codes "replay" ∷ store ∷ []) (or_usage (option_map replay_over (cond test (pages_in (drop 4 store)) (cond (is_store_name store) (Some backing.Store) None))))
    by_front true starts = by_number (drop 4 store) ((starts_is Decides-eqb store (codes "mem:") _ refl).0 starts) (number_of (drop 4 store)) refl
    by_front false other = by_name (is_store_name store) refl

-- a check
sorted_check : (rest : List (List ℕ)) → list_any is_option rest ≡ false → SortedAs (codes "check" ∷ rest) (or_usage (check_of rest))
sorted_check [] none = tt
sorted_check (name ∷ next ∷ more) none = tt
sorted_check (name ∷ []) none = by_name (is_store_name name) refl
  where
    by_name : (test : Bool) → is_store_name name ≡ test → SortedAs (codes "check" ∷ name ∷ []) (or_usage (cond test (Some command.Check) None))
    by_name false out = tt
    by_name true is = inr (inr (inr (inl (name, name_of name is (none_passes is_option (name ∷ []) name none (contains_here name [])), refl, refl))))

-- a format
sorted_format : (rest : List (List ℕ)) → list_any is_option rest ≡ false → SortedAs (codes "format" ∷ rest) (or_usage (format_of rest))
sorted_format [] none = tt
sorted_format (name ∷ []) none = tt
sorted_format (name ∷ pages ∷ []) none = tt
sorted_format (name ∷ pages ∷ frames ∷ next ∷ more) none = tt
sorted_format (name ∷ pages ∷ frames ∷ []) none = by_name (is_store_name name) refl
  where
    by_frames : is_store_name name ≡ true → (p : ℕ) → place_of pages ≡ Some p → (found : Option ℕ) → place_of frames ≡ found
        → SortedAs (codes "format" ∷ name ∷ pages ∷ frames ∷ []) (or_usage (option_map (λ f. command.Format p f) found))
    by_frames is p reads None none_read = tt
    by_frames is p reads (Some f) second =
        let first_text = number_text (2 ^ 32) pages p (omega arith) reads in
        let second_text = number_text (2 ^ 32) frames f (omega arith) second in
        inr (inr (inr (inr (
          name,
          p,
          f,
          name_of name is (none_passes is_option (name ∷ pages ∷ frames ∷ []) name none (contains_here name (pages ∷ frames ∷ []))),
          first_text.0,
          second_text.0,
          refl,
          ap (λ (t : List ℕ). codes "format" ∷ name ∷ t ∷ frames ∷ []) first_text.1
              ∙ ap (λ (t : List ℕ). codes "format" ∷ name ∷ decimal p ∷ t ∷ []) second_text.1,
        ))))

    by_pages : is_store_name name ≡ true → (found : Option ℕ) → place_of pages ≡ found
        → SortedAs (codes "format" ∷ name ∷ pages ∷ frames ∷ []) (or_usage (option_and_then (λ p. option_map (λ f. command.Format p f) (place_of frames)) found))
    by_pages is None none_read = tt
    by_pages is (Some p) reads = by_frames is p reads (place_of frames) refl

    by_name : (test : Bool) → is_store_name name ≡ test
        → SortedAs (codes "format" ∷ name ∷ pages ∷ frames ∷ []) (or_usage (cond test (option_and_then (λ p. option_map (λ f. command.Format p f) (place_of frames)) (place_of pages)) None))
    by_name false out = tt
    by_name true is = by_pages is (place_of pages) refl

-- an audit
sorted_audit : (rest : List (List ℕ)) → SortedAs (codes "audit" ∷ rest) (or_usage (audit_of rest))
sorted_audit [] = inl (refl, refl)
sorted_audit (one ∷ more) = tt

-- a known first word that is none of the built ones is one of the others
other_of : (b1 b2 b3 b4 b5 b6 : Bool) → b1 ≡ false → b2 ≡ false → b3 ≡ false → b5 ≡ false → (b1 || (b2 || (b3 || (b4 || (b5 || (b6 || false)))))) ≡ true
    → (b4 || (b6 || false)) ≡ true
other_of true b2 b3 b4 b5 b6 e1 e2 e3 e5 one = cc
other_of false true b3 b4 b5 b6 e1 e2 e3 e5 one = cc
other_of false false true b4 b5 b6 e1 e2 e3 e5 one = cc
other_of false false false true b5 b6 e1 e2 e3 e5 one = refl
other_of false false false false true b6 e1 e2 e3 e5 one = cc
other_of false false false false false b6 e1 e2 e3 e5 one = one

others : (first : List ℕ) → bytes_eq first (codes "format") ≡ false → bytes_eq first (codes "check") ≡ false → bytes_eq first (codes "replay") ≡ false
    → bytes_eq first (codes "audit") ≡ false → is_command first ≡ true → Contains unbuilt_commands first
others first no_format no_check no_replay no_audit known =
    is_in unbuilt_commands first
    (other_of (bytes_eq first (codes "format")) (bytes_eq first (codes "check")) (bytes_eq first (codes "replay")) (bytes_eq first (codes "run"))
    (bytes_eq first (codes "audit")) (bytes_eq first (codes "gen")) no_format no_check no_replay no_audit known)

-- words that begin with a known one, and have no option
sorted_known : (first : List ℕ) (rest : List (List ℕ)) → is_command first ≡ true → list_any is_option rest ≡ false → SortedAs (first ∷ rest) (known_of first rest)
sorted_known first rest known none = by_format (bytes_eq first (codes "format")) refl
  where
    as_word : (word : List ℕ) (said : Result Command Cause) → bytes_eq first word ≡ true → SortedAs (word ∷ rest) said → SortedAs (first ∷ rest) said
    as_word word said same here = subst (λ (w : List ℕ). SortedAs (w ∷ rest) said) (sym ((bytes_eq-Decides first word).0 same)) here

    by_audit : bytes_eq first (codes "format") ≡ false → bytes_eq first (codes "check") ≡ false → bytes_eq first (codes "replay") ≡ false
        → (test : Bool) → bytes_eq first (codes "audit") ≡ test → SortedAs (first ∷ rest) (cond test (or_usage (audit_of rest)) (Err (cause.Unbuilt 0)))
    by_audit no_format no_check no_replay true same = as_word (codes "audit") (or_usage (audit_of rest)) same (sorted_audit rest)
    by_audit no_format no_check no_replay false no_audit =
        (refl, (first, rest, refl, is_in commands first known, inl (others first no_format no_check no_replay no_audit known)))

    by_replay : bytes_eq first (codes "format") ≡ false → bytes_eq first (codes "check") ≡ false → (test : Bool) → bytes_eq first (codes "replay") ≡ test
        → SortedAs (first ∷ rest) (cond test (or_usage (replay_of rest)) (cond (bytes_eq first (codes "audit")) (or_usage (audit_of rest)) (Err (cause.Unbuilt 0))))
    by_replay no_format no_check true same = as_word (codes "replay") (or_usage (replay_of rest)) same (sorted_replay rest none)
    by_replay no_format no_check false no_replay = by_audit no_format no_check no_replay (bytes_eq first (codes "audit")) refl

    by_check : bytes_eq first (codes "format") ≡ false → (test : Bool) → bytes_eq first (codes "check") ≡ test
        → SortedAs (first ∷ rest) (cond test (or_usage (check_of rest)) (cond (bytes_eq first (codes "replay")) (or_usage (replay_of rest))
        (cond (bytes_eq first (codes "audit")) (or_usage (audit_of rest)) (Err (cause.Unbuilt 0)))))
    by_check no_format true same = as_word (codes "check") (or_usage (check_of rest)) same (sorted_check rest none)
    by_check no_format false no_check = by_replay no_format no_check (bytes_eq first (codes "replay")) refl

    by_format : (test : Bool) → bytes_eq first (codes "format") ≡ test
        → SortedAs (first ∷ rest) (cond test (or_usage (format_of rest)) (cond (bytes_eq first (codes "check")) (or_usage (check_of rest))
        (cond (bytes_eq first (codes "replay")) (or_usage (replay_of rest)) (cond (bytes_eq first (codes "audit")) (or_usage (audit_of rest)) (Err (cause.Unbuilt 0))))))
    by_format true same = as_word (codes "format") (or_usage (format_of rest)) same (sorted_format rest none)
    by_format false no_format = by_check no_format (bytes_eq first (codes "check")) refl

sorted_list : (list : List (List ℕ)) → SortedAs list (command_of list)
sorted_list [] = tt
sorted_list (first ∷ rest) = by_known (is_command first) refl
  where
    by_option : is_command first ≡ true → (test : Bool) → list_any is_option rest ≡ test → SortedAs (first ∷ rest) (cond test (Err (cause.Unbuilt 0)) (known_of first rest))
    by_option known true some =
        let found = any_found is_option rest some in
        (refl, (first, rest, refl, is_in commands first known, inr (found.0, found.1, hyphen_of found.0 found.2)))
    by_option known false none = sorted_known first rest known none

    by_known : (test : Bool) → is_command first ≡ test
        → SortedAs (first ∷ rest) (cond (not test) (Err cause.Usage) (cond (list_any is_option rest) (Err (cause.Unbuilt 0)) (known_of first rest)))
    by_known false unknown = tt
    by_known true known = by_option known (list_any is_option rest) refl

-- the answer to words of what is not built
abbrev unbuilt_said : Result Command Cause
unbuilt_said = Err (cause.Unbuilt 0)

-- words of a command are those that its text says
memory_back : (pages : ℕ) → 1 ≤ pages → pages ≤ 16384 → command_of (codes "replay" ∷ (codes "mem:" ++ decimal pages) ∷ []) ≡ Ok (replay_over (backing.Memory pages))
memory_back pages least most =
    ap (λ (test : Bool). or_usage (option_map replay_over (cond test (pages_in (decimal pages)) (cond (not test) (Some backing.Store) None)))) (memory_begins (decimal pages))
    ∙ ap (λ (found : Option ℕ). or_usage (option_map replay_over (option_and_then pages_from found))) (number_read_back (2 ^ 64) pages (omega arith) (omega arith))
    ∙ ap (λ (test : Bool). or_usage (option_map replay_over (cond test (Some (backing.Memory pages)) None)))
    (and_from (nat_le 1 pages) (nat_le pages 16384) (le-leb 1 pages least) (le-leb pages 16384 most))

store_back : (name : List ℕ) → IsName name → command_of (codes "replay" ∷ name ∷ []) ≡ Ok (replay_over backing.Store)
store_back name named =
    ap (λ (test : Bool). cond (test || false) (Err (cause.Unbuilt 0)) (or_usage (replay_of (name ∷ [])))) (no_option_of name named.no_option)
    ∙ ap (λ (test : Bool). or_usage (option_map replay_over (cond test (pages_in (drop 4 name)) (cond (is_store_name name) (Some backing.Store) None)))) (unlike_memory_of name named.unlike_memory)
    ∙ ap (λ (test : Bool). or_usage (option_map replay_over (cond test (Some backing.Store) None))) (name_is name named)

check_back : (name : List ℕ) → IsName name → command_of (codes "check" ∷ name ∷ []) ≡ Ok command.Check
check_back name named =
    ap (λ (test : Bool). cond (test || false) (Err (cause.Unbuilt 0)) (or_usage (check_of (name ∷ [])))) (no_option_of name named.no_option)
    ∙ ap (λ (test : Bool). or_usage (cond test (Some command.Check) None)) (name_is name named)

format_back : (name : List ℕ) (pages frames : ℕ) → IsName name → pages < 2 ^ 32 → frames < 2 ^ 32
    → command_of (codes "format" ∷ name ∷ decimal pages ∷ decimal frames ∷ []) ≡ Ok (command.Format pages frames)
format_back name pages frames named first second =
    ap (λ (test : Bool). cond (test || (is_option (decimal pages) || (is_option (decimal frames) || false))) (Err (cause.Unbuilt 0)) (or_usage (format_of (name ∷ decimal pages ∷ decimal frames ∷ []))))
    (no_option_of name named.no_option)
    ∙ ap (λ (test : Bool). cond (test || (is_option (decimal frames) || false)) (Err (cause.Unbuilt 0)) (or_usage (format_of (name ∷ decimal pages ∷ decimal frames ∷ [])))) (decimal_no_option pages (omega arith))
    ∙ ap (λ (test : Bool). cond (test || false) (Err (cause.Unbuilt 0)) (or_usage (format_of (name ∷ decimal pages ∷ decimal frames ∷ [])))) (decimal_no_option frames (omega arith))
    ∙ ap (λ (test : Bool). or_usage (cond test (option_and_then (λ p. option_map (λ f. command.Format p f) (place_of (decimal frames))) (place_of (decimal pages))) None)) (name_is name named)
    ∙ ap (λ (found : Option ℕ). or_usage (option_and_then (λ p. option_map (λ f. command.Format p f) (place_of (decimal frames))) found)) (number_read_back (2 ^ 32) pages (omega arith) first)
    ∙ ap (λ (found : Option ℕ). or_usage (option_map (λ f. command.Format pages f) found)) (number_read_back (2 ^ 32) frames (omega arith) second)

asked_back : (list : List (List ℕ)) (asked : Command) → IsCommandText list asked → command_of list ≡ Ok asked
asked_back list asked (inl audit) = ap command_of audit.1 ∙ ap Ok (sym audit.0)
asked_back list asked (inr (inl memory)) = ap command_of memory.4 ∙ memory_back memory.0 memory.1 memory.2 ∙ ap Ok (sym memory.3)
asked_back list asked (inr (inr (inl store))) = ap command_of store.3 ∙ store_back store.0 store.1 ∙ ap Ok (sym store.2)
asked_back list asked (inr (inr (inr (inl checked)))) = ap command_of checked.3 ∙ check_back checked.0 checked.1 ∙ ap Ok (sym checked.2)
asked_back list asked (inr (inr (inr (inr format)))) =
    ap command_of format.7 ∙ format_back format.0 format.1 format.2 format.3 format.4 format.5 ∙ ap Ok (sym format.6)

-- and words of what is not built are those that are said so
option_back : (first : List ℕ) (rest : List (List ℕ)) → is_command first ≡ true → HasOption rest → command_of (first ∷ rest) ≡ Err (cause.Unbuilt 0)
option_back first rest known option =
    ap (λ (test : Bool). cond (not test) (Err cause.Usage) (cond (list_any is_option rest) (Err (cause.Unbuilt 0)) (known_of first rest))) known
    ∙ ap (λ (test : Bool). cond test (Err (cause.Unbuilt 0)) (known_of first rest)) (any_of is_option rest option.0 option.1 (ap is_option option.2.1))

other_back : (first : List ℕ) (rest : List (List ℕ)) → list_any (bytes_eq first) unbuilt_commands ≡ true → command_of (first ∷ rest) ≡ Err (cause.Unbuilt 0)
other_back first rest some = by_tests (bytes_eq first (codes "run")) (bytes_eq first (codes "gen")) refl refl some
  where
    either : (test : Bool) → cond test unbuilt_said unbuilt_said ≡ unbuilt_said
    either true = refl
    either false = refl

    by_tests : (b1 b2 : Bool) → bytes_eq first (codes "run") ≡ b1 → bytes_eq first (codes "gen") ≡ b2 → (b1 || (b2 || false)) ≡ true → command_of (first ∷ rest) ≡ Err (cause.Unbuilt 0)
    by_tests true b2 is i2 one = ap (λ (w : List ℕ). command_of (w ∷ rest)) ((bytes_eq-Decides first (codes "run")).0 is) ∙ either (list_any is_option rest)
    by_tests false true i1 is one = ap (λ (w : List ℕ). command_of (w ∷ rest)) ((bytes_eq-Decides first (codes "gen")).0 is) ∙ either (list_any is_option rest)
    by_tests false false i1 i2 one = cc

unbuilt_back : (list : List (List ℕ)) → IsUnbuiltCommand list → command_of list ≡ Err (cause.Unbuilt 0)
unbuilt_back list unbuilt = ap command_of unbuilt.2 ∙ by_why unbuilt.4
  where
    by_why : Contains unbuilt_commands unbuilt.0 ⊎ HasOption unbuilt.1 → command_of (unbuilt.0 ∷ unbuilt.1) ≡ Err (cause.Unbuilt 0)
    by_why (inl other) = other_back unbuilt.0 unbuilt.1 (in_is unbuilt_commands unbuilt.0 other)
    by_why (inr option) = option_back unbuilt.0 unbuilt.1 (in_is commands unbuilt.0 unbuilt.3) option

-- words that are said to ask for nothing are none of the others
usage_of : (list : List (List ℕ)) → command_of list ≡ Err cause.Usage → IsUsage list
usage_of list said = record {
  built = λ unbuilt. let both : Err cause.Usage ≡ unbuilt_said = sym said ∙ unbuilt_back list unbuilt in cc;
  none = λ asked is. let both : Err cause.Usage ≡ Ok asked = sym said ∙ asked_back list asked is in cc;
}

-- words that are none of the others are said to ask for nothing
usage_back : (list : List (List ℕ)) (said : Result Command Cause) → SortedAs list said → IsUsage list → said ≡ Err cause.Usage
usage_back list (Ok asked) sorted usage = absurd (usage.none asked sorted)
usage_back list (Err cause.Usage) sorted usage = refl
usage_back list (Err cause.Read) sorted usage = absurd sorted
usage_back list (Err cause.Write) sorted usage = absurd sorted
usage_back list (Err cause.Disk) sorted usage = absurd sorted
usage_back list (Err (cause.Refused refusal)) sorted usage = absurd sorted
usage_back list (Err cause.Memory) sorted usage = absurd sorted
usage_back list (Err (cause.BadLine n)) sorted usage = absurd sorted
usage_back list (Err (cause.Illegal at rule)) sorted usage = absurd sorted
usage_back list (Err (cause.Unbuilt n)) sorted usage = absurd (usage.built sorted.1)

one_of : (list : List (List ℕ)) (said : Result Command Cause) → command_of list ≡ said → SortedAs list said
    → IsUsage list ⊎ IsUnbuiltCommand list ⊎ ((asked : Command) × IsCommandText list asked)
one_of list (Ok asked) is sorted = inr (inr (asked, sorted))
one_of list (Err cause.Usage) is sorted = inl (usage_of list is)
one_of list (Err cause.Read) is sorted = absurd sorted
one_of list (Err cause.Write) is sorted = absurd sorted
one_of list (Err cause.Disk) is sorted = absurd sorted
one_of list (Err (cause.Refused refusal)) is sorted = absurd sorted
one_of list (Err cause.Memory) is sorted = absurd sorted
one_of list (Err (cause.BadLine n)) is sorted = absurd sorted
one_of list (Err (cause.Illegal at rule)) is sorted = absurd sorted
one_of list (Err (cause.Unbuilt n)) is sorted = inr (inl sorted.1)

pub words_are_sorted : WordsAreSorted
words_are_sorted list =
    let here = sorted_list list in record {
      usage = (usage_of list, usage_back list (command_of list) here);
      unbuilt = (λ said. (subst (SortedAs list) said here).1, unbuilt_back list);
      asked = λ asked. (λ said. subst (SortedAs list) said here, asked_back list asked);
      one = one_of list (command_of list) refl here;
    }
