use Rattle.std.proofs.Common.{◌≡◌, ℕ, List, [], ◌∷◌, ◌++◌, true, false, ◌&&◌, ◌||◌, refl, ap, ap₂, sym, ◌∙◌, append-nil, ⊎_elim}
use Rattle.std.specs.List.{list_any}
use Rattle.std.proofs.lemmas.Bool.{cond_both, cond-false, or_parts, or_from, and_right, and_cases, cases_Bool, true≢false}
use Rattle.casper_words.specs.Crew.{has_member}
use Rattle.casper_trail.specs.declared.entry.Entry.{Entry}
use Rattle.casper_trail.specs.declared.mark.Mark.TheVariants.{Commit, Rollback}
use Rattle.casper_trail.specs.declared.item.Item.{Item}
use Rattle.casper_trail.specs.declared.item.Item.TheVariants as item
use Rattle.casper_trail.specs.Value.{is_write}
use Rattle.casper_trail.specs.Fate.{Fate, Stable, Dropped, Open, fate_of, decided_first, is_open, is_stable}
use Rattle.casper_trail.specs.Parts.{stable_entries, stable_or_open_of}
use Rattle.casper_trail.specs.Association.{association_of}
use Rattle.casper_trail.specs.Image.{array_of, with_word}
use Rattle.casper_trail.specs.TrailView.{is_commit}
use Rattle.casper_trail.specs.ImageLaws.{is_write_of, ImageWithoutCommit, ImageWithoutMembers}
use Rattle.casper_trail.proofs.Values.{array_of_more}
use Rattle.casper_trail.proofs.Parts.{part_by, part_of_more}

-- items without a commit make nothing stable
unstable : (who : ℕ) (items : List Item) → list_any is_commit items ≡ false → is_stable (fate_of who items) ≡ false
unstable who [] none_commits = refl
unstable who (item.Entry entry ∷ items) none_commits = unstable who items none_commits
unstable who (item.Mark (Commit lead members) ∷ items) none_commits = absurd (true≢false none_commits)
unstable who (item.Mark (Rollback lost members) ∷ items) none_commits =
    cond_both (has_member who members) Dropped (fate_of who items) (λ fate. is_stable fate ≡ false) (λ _. refl) (λ _. unstable who items none_commits)

still_stable : (first later : Fate) → is_stable later ≡ false → is_stable (decided_first first later) ≡ is_stable first
still_stable Stable later is = refl
still_stable Dropped later is = refl
still_stable Open later is = is

none_stable : (items : List Item) → list_any is_commit items ≡ false → stable_entries items ≡ []
none_stable [] none_commits = refl
none_stable (item.Entry entry ∷ items) none_commits =
    cond-false (is_stable (fate_of entry.who items)) (entry ∷ stable_entries items) (stable_entries items) (unstable entry.who items none_commits)
    ∙ none_stable items none_commits
none_stable (item.Mark (Commit lead members) ∷ items) none_commits = absurd (true≢false none_commits)
none_stable (item.Mark (Rollback lost members) ∷ items) none_commits = none_stable items none_commits

-- items without a commit leave the stable entries
pub stable_without_commit : (items more : List Item) → list_any is_commit more ≡ false → stable_entries (items ++ more) ≡ stable_entries items
stable_without_commit items more none_commits =
    part_of_more (λ who fate. is_stable fate) items more
    ∙ ap₂ (λ (front back : List Entry). front ++ back)
    (part_by (λ who fate. is_stable (decided_first fate (fate_of who more))) (λ who fate. is_stable fate)
    (λ who fate. still_stable fate (fate_of who more) (unstable who more none_commits)) items)
    (none_stable more none_commits)
    ∙ append-nil (stable_entries items)

pub image_without_commit : ImageWithoutCommit
image_without_commit base items more none_commits = ap (array_of base) (stable_without_commit items more none_commits)

-- items that make nothing stable and write nothing of these clients leave an array, over what they add to a part
no_writes : (array : List (List ℕ)) (members : List ℕ) (items : List Item) → list_any is_commit items ≡ false → list_any (is_write_of members) items ≡ false
    → array_of array (stable_or_open_of members items) ≡ array
no_writes array members [] none_commits none_writes = refl
no_writes array members (item.Mark (Commit lead others) ∷ items) none_commits none_writes = absurd (true≢false none_commits)
no_writes array members (item.Mark (Rollback lost others) ∷ items) none_commits none_writes = no_writes array members items none_commits none_writes
no_writes array members (item.Entry entry ∷ items) none_commits none_writes =
    let rest : array_of array (stable_or_open_of members items) ≡ array =
    no_writes array members items none_commits (or_parts (is_write entry.op && has_member entry.who members) (list_any (is_write_of members) items) none_writes).1 in
    let unwritten = and_cases (is_write entry.op) (has_member entry.who members)
    (or_parts (is_write entry.op && has_member entry.who members) (list_any (is_write_of members) items) none_writes).0 in
    let chosen = is_stable (fate_of entry.who items) || (is_open (fate_of entry.who items) && has_member entry.who members) in
    cond_both chosen (entry ∷ stable_or_open_of members items) (stable_or_open_of members items) (λ part. array_of array part ≡ array)
    (λ taken. ⊎_elim
    (λ reads. ap (λ now. array_of now (stable_or_open_of members items)) (cond-false (is_write entry.op) (with_word array entry.page entry.word entry.value) array reads) ∙ rest)
    (λ other. absurd (true≢false (sym taken ∙ or_from (is_stable (fate_of entry.who items)) (is_open (fate_of entry.who items) && has_member entry.who members)
    (unstable entry.who items none_commits) (and_right (is_open (fate_of entry.who items)) (has_member entry.who members) other))))
    unwritten)
    (λ _. rest)

-- where items decide no member and make nothing stable, the test of a part stays
still_in_part : (members : List ℕ) (who : ℕ) (fate later : Fate) → is_stable later ≡ false → (has_member who members ≡ true → later ≡ Open)
    → (is_stable (decided_first fate later) || (is_open (decided_first fate later) && has_member who members))
    ≡ (is_stable fate || (is_open fate && has_member who members))
still_in_part members who Stable later is opens = refl
still_in_part members who Dropped later is opens = refl
still_in_part members who Open later is opens =
    ⊎_elim
    (λ (named : has_member who members ≡ true). ap (λ (fate : Fate). is_stable fate || (is_open fate && has_member who members)) (opens named))
    (λ (other : has_member who members ≡ false). or_from (is_stable later) (is_open later && has_member who members) is (and_right (is_open later) (has_member who members) other) ∙ sym other)
    (cases_Bool (has_member who members))

pub image_without_members : ImageWithoutMembers
image_without_members base items more client none_commits same opens none_writes =
    let members = association_of items client in
    ap (λ crew. array_of base (stable_or_open_of crew (items ++ more))) same
    ∙ ap (array_of base) (part_of_more (λ who fate. is_stable fate || (is_open fate && has_member who members)) items more
    ∙ ap (λ (front : List Entry). front ++ stable_or_open_of members more)
    (part_by (λ who fate. is_stable (decided_first fate (fate_of who more)) || (is_open (decided_first fate (fate_of who more)) && has_member who members))
    (λ who fate. is_stable fate || (is_open fate && has_member who members))
    (λ who fate. still_in_part members who fate (fate_of who more) (unstable who more none_commits) (opens who)) items))
    ∙ array_of_more base (stable_or_open_of members items) (stable_or_open_of members more)
    ∙ no_writes (array_of base (stable_or_open_of members items)) members more none_commits none_writes
