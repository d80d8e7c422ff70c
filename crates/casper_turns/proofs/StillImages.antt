use Rattle.std.proofs.Common.{◌≡◌, ◌⊎◌, ℕ, List, [], ◌∷◌, ◌++◌, Bool, true, false, ◌&&◌, cond, filter, map, Contains, refl, sym, ap, ◌∙◌, inl, inr, true≢false, append-nil}
use Rattle.std.specs.List.{list_any}
use Rattle.std.proofs.lemmas.Bool.{cases_Bool, cond_both, cond-false, or_parts, and_parts, false_from_ne_true}
use Rattle.casper_words.specs.Crew.{has_member}
use Rattle.casper_trail.specs.declared.entry.Entry.{Entry}
use Rattle.casper_trail.specs.declared.item.Item.{Item}
use Rattle.casper_trail.specs.declared.item.Item.TheVariants as item
use Rattle.casper_trail.specs.Association.{association_of}
use Rattle.casper_trail.specs.Fate.{Fate, is_open, decided_first, fate_of}
use Rattle.casper_trail.specs.Image.{image_of, image_with}
use Rattle.casper_trail.specs.ImageLaws.{is_write_of}
use Rattle.casper_trail.specs.Parts.{entries_where, open_entries}
use Rattle.casper_trail.specs.Value.{is_write}
use Rattle.casper_trail.proofs.Images.{image_without_commit, image_without_members}
use Rattle.casper_trail.proofs.Pages.{filter_append}
use Rattle.casper_trail.proofs.Parts.{part_of_more, decided_then_open}
use Rattle.casper_space.specs.Rising.{rising}
use Rattle.casper_model.specs.Frozen.{open_writes_of, pages_modified_by}
use Rattle.casper_model.specs.Shared.{Shared}
use Rattle.casper_model.specs.Stabilisation.{Stabilisation, is_gathering}
use Rattle.casper_turns.specs.CommitsNothing.{StandsStill, CommitsNothing}

-- whether an entry is a write by a member
abbrev is_write_by : List ℕ → Entry → Bool
is_write_by members entry = is_write entry.op && has_member entry.who members

-- while nothing is committed the stable image stands
pub image_while_still : (shared after : Shared) → CommitsNothing shared after → (base : List (List ℕ)) → image_of base after.trail ≡ image_of base shared.trail
image_while_still shared after still base = ap (image_of base) still.trail ∙ image_without_commit base shared.trail still.more still.commits

-- and so does the image with each association that is sealed or in doubt
pub held_image_while_still : (shared after : Shared) → CommitsNothing shared after → (one : Stabilisation) → Contains shared.stabilisations one → is_gathering one.phase ≡ false
    → (base : List (List ℕ)) → image_with base after.trail one.lead ≡ image_with base shared.trail one.lead
held_image_while_still shared after still one inside held base =
    let stands = still.held one inside held in
    ap (λ trail. image_with base trail one.lead) still.trail
    ∙ image_without_members base shared.trail still.more one.lead still.commits (sym (ap (λ trail. association_of trail one.lead) still.trail) ∙ stands.members)
    stands.decided stands.written

-- two parts that decide alike for members have the same writes of theirs
same_writes : (members : List ℕ) (one other : ℕ → Fate → Bool) → ((who : ℕ) → has_member who members ≡ true → (fate : Fate) → one who fate ≡ other who fate)
    → (items : List Item) → filter (is_write_by members) (entries_where one items) ≡ filter (is_write_by members) (entries_where other items)
same_writes members one other alike [] = refl
same_writes members one other alike (item.Mark mark ∷ items) = same_writes members one other alike items
same_writes members one other alike (item.Entry entry ∷ items) =
    by_member (same_writes members one other alike items) (cases_Bool (has_member entry.who members))
  where
    fate : Fate
    fate = fate_of entry.who items

    test : Entry → Bool
    test = is_write_by members

    passed : (kept : Bool) (entries : List Entry) → test entry ≡ false → filter test (cond kept (entry ∷ entries) entries) ≡ filter test entries
    passed kept entries fails =
        cond_both kept (entry ∷ entries) entries (λ list. filter test list ≡ filter test entries)
        (λ yes. cond-false (test entry) (entry ∷ filter test entries) (filter test entries) fails) (λ no. refl)

    by_member : filter test (entries_where one items) ≡ filter test (entries_where other items)
        → (has_member entry.who members ≡ true) ⊎ (has_member entry.who members ≡ false)
        → filter test (cond (one entry.who fate) (entry ∷ entries_where one items) (entries_where one items))
        ≡ filter test (cond (other entry.who fate) (entry ∷ entries_where other items) (entries_where other items))
    by_member rest (inl member) =
        ap (λ kept. filter test (cond kept (entry ∷ entries_where one items) (entries_where one items))) (alike entry.who member fate)
        ∙ elim (other entry.who fate) as
        (λ kept. filter test (cond kept (entry ∷ entries_where one items) (entries_where one items)) ≡ filter test (cond kept (entry ∷ entries_where other items) (entries_where other items)))
        [ true ↦ ap (λ list. cond (test entry) (entry ∷ list) list) rest | false ↦ rest ]
    by_member rest (inr out) =
        let fails : test entry ≡ false = false_from_ne_true (test entry) (λ passes. true≢false (sym (and_parts (is_write entry.op) (has_member entry.who members) passes).1 ∙ out)) in
        passed (one entry.who fate) (entries_where one items) fails ∙ rest ∙ sym (passed (other entry.who fate) (entries_where other items) fails)

-- items that no member writes have no open write of one
no_writes : (members : List ℕ) (items : List Item) → list_any (is_write_of members) items ≡ false → filter (is_write_by members) (open_entries items) ≡ []
no_writes members [] none = refl
no_writes members (item.Mark mark ∷ items) none = no_writes members items none
no_writes members (item.Entry entry ∷ items) none =
    let parts = or_parts (is_write_by members entry) (list_any (is_write_of members) items) none in
    cond_both (is_open (fate_of entry.who items)) (entry ∷ open_entries items) (open_entries items) (λ list. filter (is_write_by members) list ≡ [])
    (λ yes. cond-false (is_write_by members entry) (entry ∷ filter (is_write_by members) (open_entries items)) (filter (is_write_by members) (open_entries items)) parts.0
    ∙ no_writes members items parts.1)
    (λ no. no_writes members items parts.1)

-- the open writes of an association that stands still stay, and with them the pages of its job
pub open_writes_while_still : (shared after : Shared) (more : List Item) (one : Stabilisation) → after.trail ≡ shared.trail ++ more → StandsStill shared after more one
    → open_writes_of after.trail (association_of after.trail one.lead) ≡ open_writes_of shared.trail (association_of shared.trail one.lead)
open_writes_while_still shared after more one grown stands =
    ap (open_writes_of after.trail) stands.members
    ∙ ap (λ trail. open_writes_of trail members) grown
    ∙ ap (filter (is_write_by members)) (part_of_more (λ who fate. is_open fate) shared.trail more)
    ∙ filter_append (is_write_by members) (entries_where (λ who fate. is_open (decided_first fate (fate_of who more))) shared.trail) (open_entries more)
    ∙ ap (λ back. filter (is_write_by members) (entries_where (λ who fate. is_open (decided_first fate (fate_of who more))) shared.trail) ++ back)
    (no_writes members more stands.written)
    ∙ append-nil (filter (is_write_by members) (entries_where (λ who fate. is_open (decided_first fate (fate_of who more))) shared.trail))
    ∙ same_writes members (λ who fate. is_open (decided_first fate (fate_of who more))) (λ who fate. is_open fate)
    (λ who member fate. ap is_open (ap (decided_first fate) (stands.decided who member) ∙ decided_then_open fate)) shared.trail
  where
    members : List ℕ
    members = association_of shared.trail one.lead

pub job_while_still : (shared after : Shared) (more : List Item) (one : Stabilisation) → after.trail ≡ shared.trail ++ more → StandsStill shared after more one
    → pages_modified_by after.trail (association_of after.trail one.lead) ≡ pages_modified_by shared.trail (association_of shared.trail one.lead)
job_while_still shared after more one grown stands =
    ap (λ entries. rising (map (λ (entry : Entry). entry.page) entries)) (open_writes_while_still shared after more one grown stands)
