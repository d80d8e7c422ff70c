use Rattle.std.proofs.Common.{◌≡◌, ℕ, Bool, true, false, ◌&&◌, cond, nat_eq, List, [], ◌∷◌, ◌++◌, Option, None, Some, option_map, get_or, eq-eqb, refl, sym, ap, ◌∙◌, ⊎_elim}
use Rattle.std.specs.List.{find}
use Rattle.std.specs.Option.{option_or}
use Rattle.std.proofs.lemmas.List.Folds.{find-append}
use Rattle.std.proofs.lemmas.Bool.{cases_Bool}
use Rattle.casper_words.specs.declared.call.Call.{Call}
use Rattle.casper_trail.specs.declared.entry.Entry.{Entry}
use Rattle.casper_trail.specs.declared.item.Item.{Item}
use Rattle.casper_trail.specs.Value.{is_write, writes_page}
use Rattle.casper_trail.specs.Parts.{open_entries, as_items}
use Rattle.casper_trail.specs.Calls.{entries_by}
use Rattle.casper_trail.specs.GrowthLaws.{WritersAreWith}
use Rattle.casper_trail.proofs.Parts.{open_of_more_entries}
use Rattle.casper_trail.proofs.Links.{client_at}
use Rattle.casper_trail.proofs.Growth.{association_of_more_calls}
use Rattle.casper_assoc.specs.Labelling.{label_of, page_label_of}
use Rattle.casper_assoc.specs.TrailLabels.{first_writer, IsFreeOrOf, writes_among, CallsWithinPart}
use Rattle.casper_assoc.proofs.TrailParts.{writers_have_the_pages_label, together, parts_by_labels, or_none, map_or}

-- the first of a client's calls that writes a page is the client's
first_of_calls : (who page : ℕ) (calls : List Call)
    → option_map (λ (e : Entry). e.who) (find (writes_page page) (entries_by who calls)) ≡ cond (writes_among calls page) (Some who) None
first_of_calls who page [] = refl
first_of_calls who page (call ∷ calls) =
    ⊎_elim
    (λ (here : (is_write call.op && nat_eq call.page page) ≡ true). rw here refl)
    (λ (later : (is_write call.op && nat_eq call.page page) ≡ false). rw later (first_of_calls who page calls))
    (cases_Bool (is_write call.op && nat_eq call.page page))

-- the first writer of a page after calls of a client
writer_after_calls : (items : List Item) (who page : ℕ) (calls : List Call) → first_writer (items ++ as_items (entries_by who calls)) page
    ≡ option_or (first_writer items page) (cond (writes_among calls page) (Some who) None)
writer_after_calls items who page calls =
    ap (λ (entries : List Entry). option_map (λ (e : Entry). e.who) (find (writes_page page) entries))
    (open_of_more_entries items (entries_by who calls))
    ∙ ap (option_map (λ (e : Entry). e.who)) (find-append (writes_page page) (open_entries items) (entries_by who calls))
    ∙ map_or (λ (e : Entry). e.who) (find (writes_page page) (open_entries items)) (find (writes_page page) (entries_by who calls))
    ∙ ap (option_or (first_writer items page)) (first_of_calls who page calls)

pub calls_within_part : CallsWithinPart
calls_within_part old new items who calls clients is labels free noted same = record {
  parts = λ client is_client.
      parts_by_labels new old (λ one _. ap (λ (l : List ℕ). get_or l one 0) same) client is_client
      ∙ labels.parts client is_client
      ∙ sym (association_of_more_calls items who calls is (λ call inside. with_them call (free call inside)) client);
  pages = λ page.
      noted page
      ∙ ap (λ o. cond (writes_among calls page) (option_or o (Some who)) o) (labels.pages page)
      ∙ by (writes_among calls page) (first_writer items page)
      ∙ sym (writer_after_calls items who page calls);
}
  where
    by : (b : Bool) (o : Option ℕ) → cond b (option_or o (Some who)) o ≡ option_or o (cond b (Some who) None)
    by true o = refl
    by false o = sym (or_none o)

    of_part : (label : Option ℕ) (found : ℕ) → IsFreeOrOf (label_of old who) label → label ≡ Some found → found ≡ label_of old who
    of_part None found free_ at = cc
    of_part (Some other) found mine at = let same_ : other ≡ found = cc in sym same_ ∙ mine

    with_them : (call : Call) → IsFreeOrOf (label_of old who) (page_label_of old call.page) → WritersAreWith items call.page who
    with_them call free_ write inside writes =
        together old items who write.who labels is (client_at items write inside.0 clients inside.1 inside.2)
        ∙ eq-eqb (label_of old write.who) (label_of old who)
        (of_part (page_label_of old call.page) (label_of old write.who) free_
        (writers_have_the_pages_label old items call.page write clients labels inside writes))
