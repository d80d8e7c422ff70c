use Rattle.std.proofs.Common.{◌≡◌, ◌≢◌, ◌+◌, ℕ, List, [], ◌∷◌, ◌++◌, Bool, true, false, cond, ◌&&◌, ◌==◌, filter, filter_map, Option, Some, None, length, count_by, length-append, add-zero, refl, ap, ap₂, sym, ◌∙◌, append-nil}
use Rattle.std.specs.List.{list_all, cons_option}
use Rattle.std.proofs.lemmas.Bool.{and_parts, ne_eqb, eq-eqb}
use Rattle.std.proofs.lemmas.List.{length-map}
use Rattle.std.proofs.lemmas.List.Sums.{length-filter}
use Rattle.casper_words.specs.declared.call.Call.{Call}
use Rattle.casper_trail.specs.declared.entry.Entry.{Entry}
use Rattle.casper_trail.specs.declared.item.Item.{Item}
use Rattle.casper_trail.specs.declared.item.Item.TheVariants as item
use Rattle.casper_trail.specs.Parts.{as_items}
use Rattle.casper_trail.specs.Calls.{is_read_or_write, call_of, call_in, calls_of, entries_by, touch_by}
use Rattle.casper_trail.specs.TrailView.{entry_count, is_entry}
use Rattle.casper_trail.specs.CallLaws.{CallsOfMore, CallsOfTheirClient, CallsOfAnother, CallsAfterTouch, CallsAfterMark, ClientsOfMore, ClientsOfCalls, CountOfMoreEntries, CountAfterMark}
use Rattle.casper_trail.proofs.Pages.{filter_append}

pub filter_map_append : {X Y : Type 0} (f : X → Option Y) (xs ys : List X) → filter_map f (xs ++ ys) ≡ filter_map f xs ++ filter_map f ys
filter_map_append f [] ys = refl
filter_map_append f (x ∷ xs) ys =
    elim (f x) as (λ found. cons_option found (filter_map f (xs ++ ys)) ≡ cons_option found (filter_map f xs) ++ filter_map f ys)
    [ None ↦ filter_map_append f xs ys | Some y ↦ ap (λ rest. y ∷ rest) (filter_map_append f xs ys) ]

pub calls_of_more : CallsOfMore
calls_of_more items more client = filter_map_append (call_in client) items more

-- reads and writes recorded for a client are its calls
own_calls : (who : ℕ) (calls : List Call) → list_all (λ call. is_read_or_write call.op) calls ≡ true → calls_of (as_items (entries_by who calls)) who ≡ calls
own_calls who [] reads_or_writes = refl
own_calls who (call ∷ calls) reads_or_writes =
    let parts = and_parts (is_read_or_write call.op) (list_all (λ one. is_read_or_write one.op) calls) reads_or_writes in
    ap (λ taken. cons_option (cond taken (Some call) None) (calls_of (as_items (entries_by who calls)) who))
    (ap (λ same. same && is_read_or_write call.op) (eq-eqb who who refl) ∙ parts.0)
    ∙ ap (λ (rest : List Call). call ∷ rest) (own_calls who calls parts.1)

pub calls_of_their_client : CallsOfTheirClient
calls_of_their_client items who calls reads_or_writes =
    calls_of_more items (as_items (entries_by who calls)) who ∙ ap (λ back. calls_of items who ++ back) (own_calls who calls reads_or_writes)

others_calls : (who client : ℕ) (calls : List Call) → who ≢ client → calls_of (as_items (entries_by who calls)) client ≡ []
others_calls who client [] differ = refl
others_calls who client (call ∷ calls) differ =
    ap (λ same. cons_option (cond (same && is_read_or_write call.op) (Some call) None) (calls_of (as_items (entries_by who calls)) client)) (ne_eqb who client differ)
    ∙ others_calls who client calls differ

pub calls_of_another : CallsOfAnother
calls_of_another items who client calls differ =
    calls_of_more items (as_items (entries_by who calls)) client ∙ ap (λ back. calls_of items client ++ back) (others_calls who client calls differ)
    ∙ append-nil (calls_of items client)

touch_no_call : (who page client : ℕ) → calls_of (item.Entry (touch_by who page) ∷ []) client ≡ []
touch_no_call who page client =
    elim (who == client) as (λ same. cons_option (cond (same && false) (Some (call_of (touch_by who page))) None) [] ≡ []) [ true ↦ refl | false ↦ refl ]

pub calls_after_touch : CallsAfterTouch
calls_after_touch items who page client =
    calls_of_more items (item.Entry (touch_by who page) ∷ []) client ∙ ap (λ back. calls_of items client ++ back) (touch_no_call who page client)
    ∙ append-nil (calls_of items client)

pub calls_after_mark : CallsAfterMark
calls_after_mark items mark client = calls_of_more items (item.Mark mark ∷ []) client ∙ append-nil (calls_of items client)

pub clients_of_more : ClientsOfMore
clients_of_more [] more clients clients' = clients'
clients_of_more (item.Entry entry ∷ items) more clients clients' = (clients.0, clients_of_more items more clients.1 clients')
clients_of_more (item.Mark mark ∷ items) more clients clients' = clients_of_more items more clients clients'

pub clients_of_calls : ClientsOfCalls
clients_of_calls who [] is = tt
clients_of_calls who (call ∷ calls) is = (is, clients_of_calls who calls is)

-- a count of items followed by others is the sum of the two
pub count_append : {X : Type 0} (test : X → Bool) (xs ys : List X) → count_by test (xs ++ ys) ≡ count_by test xs + count_by test ys
count_append test xs ys =
    sym (length-filter test (xs ++ ys)) ∙ ap length (filter_append test xs ys) ∙ length-append (filter test xs) (filter test ys)
    ∙ ap₂ (λ m n. m + n) (length-filter test xs) (length-filter test ys)

entries_pass : (entries : List Entry) → filter is_entry (as_items entries) ≡ as_items entries
entries_pass [] = refl
entries_pass (entry ∷ entries) = ap (λ (rest : List Item). item.Entry entry ∷ rest) (entries_pass entries)

pub count_of_more_entries : CountOfMoreEntries
count_of_more_entries items more =
    count_append is_entry items (as_items more)
    ∙ ap (λ n. entry_count items + n) (sym (length-filter is_entry (as_items more)) ∙ ap length (entries_pass more) ∙ length-map more item.Entry)

pub count_after_mark : CountAfterMark
count_after_mark items mark = count_append is_entry items (item.Mark mark ∷ []) ∙ add-zero (entry_count items)
