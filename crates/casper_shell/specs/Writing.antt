use Rattle.std.specs.Prelude.{ℕ, ◌^◌, ◌&&◌, List, [], ◌∷◌, Option, Some, None, nat_le, if◌then◌else◌, codes, option_map, option_and_then}
use Rattle.std.specs.Str.{bytes_eq}
use Rattle.casper_text.specs.Name.{name_of}
use Rattle.casper_text.specs.Number.{number_of, number_below}
use Rattle.casper_text.specs.Reference.{reference_of}
use Rattle.casper_shell.specs.declared.line.ShellLine.{ShellLine}
use Rattle.casper_shell.specs.declared.line.ShellLine.TheVariants as line

-- the number of a page, or of a field, that a word gives
abbrev pub place_of : List ℕ → Option ℕ
place_of word = number_below (2 ^ 32) word

-- a number of fields: 1 to 64
abbrev pub count_of : List ℕ → Option ℕ
count_of word = option_and_then (λ number. if nat_le 1 number && nat_le number 64 then Some number else None) (place_of word)

-- what stands after `new`: a page and a number of fields
abbrev pub new_of : List (List ℕ) → Option ShellLine
new_of (page ∷ fields ∷ []) = option_and_then (λ p. option_map (λ n. line.New p n) (count_of fields)) (place_of page)
new_of _ = None

-- what stands after `set`: an object, a field and a value
abbrev pub set_of : List (List ℕ) → Option ShellLine
set_of (object ∷ field ∷ value ∷ []) =
    option_and_then (λ r. option_and_then (λ i. option_map (λ v. line.Set r i v) (number_of value)) (place_of field)) (reference_of object)
set_of _ = None

-- what stands after `ref`: an object, a field and the object that it is to lead to
abbrev pub ref_of : List (List ℕ) → Option ShellLine
ref_of (object ∷ field ∷ target ∷ []) =
    option_and_then (λ r. option_and_then (λ i. option_map (λ to. line.SetRef r i to) (reference_of target)) (place_of field)) (reference_of object)
ref_of _ = None

-- what stands after `get`: an object and a field
abbrev pub get_of : List (List ℕ) → Option ShellLine
get_of (object ∷ field ∷ []) = option_and_then (λ r. option_map (λ i. line.Get r i) (place_of field)) (reference_of object)
get_of _ = None

-- what stands after `follow`: an object and a field
abbrev pub follow_of : List (List ℕ) → Option ShellLine
follow_of (object ∷ field ∷ []) = option_and_then (λ r. option_map (λ i. line.Follow r i) (place_of field)) (reference_of object)
follow_of _ = None

-- what stands after `free`: an object
abbrev pub free_of : List (List ℕ) → Option ShellLine
free_of (object ∷ []) = option_map (λ r. line.Free r) (reference_of object)
free_of _ = None

-- what stands after `bind`: a name and an object
abbrev pub bind_of : List (List ℕ) → Option ShellLine
bind_of (name ∷ object ∷ []) = option_and_then (λ bytes. option_map (λ r. line.Bind bytes r) (reference_of object)) (name_of name)
bind_of _ = None

-- what stands after `unbind`: a name
abbrev pub unbind_of : List (List ℕ) → Option ShellLine
unbind_of (name ∷ []) = option_map (λ bytes. line.Unbind bytes) (name_of name)
unbind_of _ = None

-- what stands after `find`: a name
abbrev pub find_of : List (List ℕ) → Option ShellLine
find_of (name ∷ []) = option_map (λ bytes. line.Find bytes) (name_of name)
find_of _ = None

-- nothing stands after `names`
abbrev pub list_of : List (List ℕ) → Option ShellLine
list_of [] = Some line.Names
list_of _ = None

-- the line of a verb and the words after it
abbrev pub line_of_verb : List ℕ → List (List ℕ) → Option ShellLine
line_of_verb verb rest =
    if bytes_eq verb (codes "new") then new_of rest else
    (if bytes_eq verb (codes "set") then set_of rest else
    (if bytes_eq verb (codes "ref") then ref_of rest else
    (if bytes_eq verb (codes "get") then get_of rest else
    (if bytes_eq verb (codes "follow") then follow_of rest else
    (if bytes_eq verb (codes "free") then free_of rest else
    (if bytes_eq verb (codes "bind") then bind_of rest else
    (if bytes_eq verb (codes "unbind") then unbind_of rest else
    (if bytes_eq verb (codes "find") then find_of rest else
    (if bytes_eq verb (codes "names") then list_of rest else None)))))))))

-- the line that words write
abbrev pub line_of : List (List ℕ) → Option ShellLine
line_of [] = None
line_of (verb ∷ rest) = line_of_verb verb rest
