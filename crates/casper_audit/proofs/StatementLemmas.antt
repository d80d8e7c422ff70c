use Rattle.std.proofs.Common.{◌≡◌, ℕ, Bool, cond, List, [], ◌∷◌, ◌++◌, map, filter, fold, append_assoc, Option, Some, None, option_and_then, ap, sym, subst, ◌∙◌, refl}
use Rattle.std.proofs.lemmas.List.{append-nil}
use Rattle.casper_trail.specs.declared.item.Item.{Item}
use Rattle.casper_trail.proofs.Values.{fold_append}
use Rattle.casper_audit.specs.declared.parse.BaseWord.{BaseWord}
use Rattle.casper_audit.specs.declared.parse.Parsed.{Parsed}
use Rattle.casper_audit.specs.declared.parse.Parsed.TheVariants as parsed
use Rattle.casper_audit.specs.Lines.{line_parsed}
use Rattle.casper_audit.specs.Text.{TrailText, no_text, last_word, after_parsed}
use Rattle.casper_audit.specs.Statements.{is_stated, AreRising, TextsAreReadBack}

-- a text and what some lines say
abbrev behind : Option TrailText → List Parsed → Option TrailText
behind text said = fold (λ before one. option_and_then (λ t. after_parsed t one) before) text said

-- a text by what its lines say
by_parsed : (text : Option TrailText) (lines : List (List ℕ)) → fold (λ before line. option_and_then (λ t. after_parsed t (line_parsed line)) before) text lines ≡ behind text (map line_parsed lines)
by_parsed text [] = refl
by_parsed text (line ∷ lines) = by_parsed (option_and_then (λ (t : TrailText). after_parsed t (line_parsed line)) text) lines

same_text : (text : Option TrailText) → option_and_then (λ t. after_parsed t parsed.Skip) text ≡ text
same_text None = refl
same_text (Some text) = refl

-- lines that are skipped change nothing
without_skips : (text : Option TrailText) (said : List Parsed) → behind text said ≡ behind text (filter is_stated said)
without_skips text [] = refl
without_skips text (parsed.Skip ∷ said) = ap (λ (t : Option TrailText). behind t said) (same_text text) ∙ without_skips text said
without_skips text (parsed.Base word ∷ said) = without_skips (option_and_then (λ (t : TrailText). after_parsed t (parsed.Base word)) text) said
without_skips text (parsed.Item next ∷ said) = without_skips (option_and_then (λ (t : TrailText). after_parsed t (parsed.Item next)) text) said
without_skips text (parsed.Bad ∷ said) = without_skips (option_and_then (λ (t : TrailText). after_parsed t parsed.Bad) text) said

items_behind : (words : List BaseWord) (before items : List Item) → behind (Some (record { words = words; items = before })) (map parsed.Item items) ≡ Some (record { words = words; items = before ++ items })
items_behind words before [] = ap (λ (list : List Item). Some (record { words = words; items = list })) (sym (append-nil before))
items_behind words before (next ∷ items) =
    items_behind words (before ++ next ∷ []) items ∙ ap (λ (list : List Item). Some (record { words = words; items = list })) (append_assoc before (next ∷ []) items)

words_behind : (before words : List BaseWord) → AreRising (last_word before) words → behind (Some (record { words = before; items = [] })) (map parsed.Base words) ≡ Some (record { words = before ++ words; items = [] })
words_behind before [] rising = ap (λ (list : List BaseWord). Some (record { words = list; items = [] })) (sym (append-nil before))
words_behind before (word ∷ words) rising =
    ap (λ (b : Bool). behind (cond b (Some (record { words = before ++ word ∷ []; items = [] })) None) (map parsed.Base words)) rising.0
    ∙ words_behind (before ++ word ∷ []) words (subst (λ (last : Option BaseWord). AreRising last words) (sym (fold_append (λ (found : Option BaseWord) (one : BaseWord). Some one) None before (word ∷ []))) rising.1)
    ∙ ap (λ (list : List BaseWord). Some (record { words = list; items = [] })) (append_assoc before (word ∷ []) words)

pub texts_are_read_back : TextsAreReadBack
texts_are_read_back lines words items says rising =
    by_parsed (Some no_text) lines
    ∙ without_skips (Some no_text) (map line_parsed lines)
    ∙ ap (behind (Some no_text)) says
    ∙ fold_append (λ (before : Option TrailText) (one : Parsed). option_and_then (λ t. after_parsed t one) before) (Some no_text) (map parsed.Base words) (map parsed.Item items)
    ∙ ap (λ (text : Option TrailText). behind text (map parsed.Item items)) (words_behind [] words rising)
    ∙ items_behind words [] items
