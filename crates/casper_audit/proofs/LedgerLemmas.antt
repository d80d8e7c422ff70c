use Rattle.std.proofs.Common.{◌≡◌, ℕ, Bool, true, false, cond, ◌&&◌, ◌||◌, ◌==◌, List, [], ◌∷◌, ◌++◌, Option, Some, None, ap, sym, ◌∙◌, refl}
use Rattle.std.proofs.lemmas.Bool.{and_parts, eqb-true}
use Rattle.std.proofs.lemmas.List.Folds.{list_any-append}
use Rattle.casper_words.specs.declared.call.Op.{Op}
use Rattle.casper_words.specs.Crew.{IsClient}
use Rattle.casper_trail.specs.declared.entry.Entry.{Entry}
use Rattle.casper_trail.specs.declared.item.Item.{Item}
use Rattle.casper_trail.specs.declared.item.Item.TheVariants as item
use Rattle.casper_trail.specs.Value.{is_write, writes_word}
use Rattle.casper_audit.specs.declared.words.Place.{Place}
use Rattle.casper_audit.specs.declared.words.Values.{Values}
use Rattle.casper_audit.specs.declared.ledger.Ledger.{Ledger}
use Rattle.casper_audit.specs.Words.{same_place, values_in, live_in, stable_in}
use Rattle.casper_audit.specs.Groups.{group_in}
use Rattle.casper_audit.specs.Opened.{places_in, is_among, opened_in}
use Rattle.casper_audit.specs.Keeps.{IsLedger, Links, Writes, linked, writer_in}
use Rattle.casper_audit.proofs.KeepsEntry.{keeps_entry, linked_by}

linked_same : (before : Ledger) (who : ℕ) (writer : Option ℕ) (client : ℕ) → linked before.groups who writer client ≡ linked_by (group_in before.groups) who writer client
linked_same before who None client = refl
linked_same before who (Some writer) client = refl

no_page : (op : Op) (other page : ℕ) → is_write op ≡ false → (is_write op && (other == page)) ≡ false
no_page op other page e = ap (λ (b : Bool). b && (other == page)) e

or_none : (b : Bool) → (b || false) ≡ b
or_none true = refl
or_none false = refl

and_all : (a b : Bool) → b ≡ true → (a && b) ≡ a
and_all true b e = e
and_all false b e = refl

and_none : (a b : Bool) → b ≡ false → (a && b) ≡ false
and_none true b e = e
and_none false b e = refl

-- an entry that writes nothing was added
pub ledger_linked : (base : List (List ℕ)) (items : List Item) (entry : Entry) (before after : Ledger) → is_write entry.op ≡ false → IsClient entry.who
    → Links entry.who entry.page before after → IsLedger base items before → IsLedger base (items ++ item.Entry entry ∷ []) after
ledger_linked base items entry before after plain is links keeps = keeps_entry keeps entry is
    (λ page word. ap (λ words. live_in words page word) links.words ∙ sym (ap (λ (b : Bool). cond b entry.value (live_in before.words page word)) (not_word page word)))
    (λ page word. ap (λ words. stable_in words page word) links.words)
    (λ page. ap (λ writers. writer_in (record before { writers = writers }) page) links.writers
    ∙ sym (ap (λ (b : Bool). cond b (Some entry.who) (writer_in before page)) (no_page entry.op entry.page page plain)))
    (λ client page word c. ap (λ opened. opened_in opened client page word) links.opened
    ∙ sym (ap (λ (b : Bool). opened_in before.opened client page word || (b && (client == entry.who))) (not_word page word) ∙ or_none (opened_in before.opened client page word)))
    (λ client c. links.groups client c ∙ linked_same before entry.who (writer_in before entry.page) client)
  where
    not_word : (page word : ℕ) → writes_word page word entry ≡ false
    not_word page word = ap (λ (b : Bool). b && (entry.word == word)) (no_page entry.op entry.page page plain)

-- a write was added
pub ledger_written : (base : List (List ℕ)) (items : List Item) (entry : Entry) (before between after : Ledger) → is_write entry.op ≡ true → IsClient entry.who
    → Links entry.who entry.page before between → Writes entry.who (record { page = entry.page; word = entry.word }) entry.value between after
    → IsLedger base items before → IsLedger base (items ++ item.Entry entry ∷ []) after
ledger_written base items entry before between after writing is links writes keeps = keeps_entry keeps entry is
    (λ page word. ap (λ (values : Values). values.live) (writes.values (record { page = page; word = word }))
    ∙ live_cond (same_place place (record { page = page; word = word })) (values_in between.words (record { page = page; word = word }))
    ∙ ap (λ words. cond (same_place place (record { page = page; word = word })) entry.value (live_in words page word)) links.words
    ∙ ap (λ (b : Bool). cond b entry.value (live_in before.words page word)) (here page word))
    (λ page word. ap (λ (values : Values). values.stable) (writes.values (record { page = page; word = word }))
    ∙ stable_kept page word (same_place place (record { page = page; word = word })) refl
    ∙ ap (λ words. stable_in words page word) links.words)
    (λ page. writes.writers page
    ∙ ap (λ writers. cond (entry.page == page) (Some entry.who) (writer_in (record between { writers = writers }) page)) links.writers
    ∙ ap (λ (b : Bool). cond b (Some entry.who) (writer_in before page)) (sym (ap (λ (b : Bool). b && (entry.page == page)) writing)))
    opens
    (λ client c. ap (λ groups. group_in groups client) writes.groups ∙ links.groups client c ∙ linked_same before entry.who (writer_in before entry.page) client)
  where
    place : Place
    place = record { page = entry.page; word = entry.word }

    here : (page word : ℕ) → same_place place (record { page = page; word = word }) ≡ writes_word page word entry
    here page word = sym (ap (λ (b : Bool). (b && (entry.page == page)) && (entry.word == word)) writing)

    live_cond : (b : Bool) (own : Values) → (cond b (record { live = entry.value; stable = (values_in between.words place).stable }) own).live ≡ cond b entry.value own.live
    live_cond true own = refl
    live_cond false own = refl

    stable_kept : (page word : ℕ) (b : Bool) → same_place place (record { page = page; word = word }) ≡ b
        → (cond b (record { live = entry.value; stable = (values_in between.words place).stable }) (values_in between.words (record { page = page; word = word }))).stable ≡ stable_in between.words page word
    stable_kept page word true e = let parts = and_parts (entry.page == page) (entry.word == word) e in
        ap (λ (p : ℕ). stable_in between.words p entry.word) (eqb-true entry.page page parts.0) ∙ ap (λ (w : ℕ). stable_in between.words page w) (eqb-true entry.word word parts.1)
    stable_kept page word false e = refl

    among_last : (places : List Place) (other : Place) → is_among (places ++ place ∷ []) other ≡ (is_among places other || same_place place other)
    among_last places other = list_any-append (λ (one : Place). same_place one other) places (place ∷ [])
        ∙ ap (λ (b : Bool). is_among places other || b) (or_none (same_place place other))

    opens : (client page word : ℕ) → IsClient client
        → opened_in after.opened client page word ≡ (opened_in before.opened client page word || (writes_word page word entry && (client == entry.who)))
    opens client page word c =
        ap (λ places. is_among places (record { page = page; word = word })) (writes.opened client c)
        ∙ by_client (client == entry.who) refl
        ∙ ap (λ opened. opened_in opened client page word || (writes_word page word entry && (client == entry.who))) links.opened
      where
        by_client : (b : Bool) → (client == entry.who) ≡ b
            → is_among (cond b (places_in between.opened entry.who ++ place ∷ []) (places_in between.opened client)) (record { page = page; word = word })
            ≡ (opened_in between.opened client page word || (writes_word page word entry && (client == entry.who)))
        by_client true e =
            among_last (places_in between.opened entry.who) (record { page = page; word = word })
            ∙ ap (λ (n : ℕ). is_among (places_in between.opened n) (record { page = page; word = word }) || same_place place (record { page = page; word = word })) (sym (eqb-true client entry.who e))
            ∙ ap (λ (b : Bool). opened_in between.opened client page word || b) (here page word ∙ sym (and_all (writes_word page word entry) (client == entry.who) e))
        by_client false e =
            sym (or_none (opened_in between.opened client page word))
            ∙ ap (λ (b : Bool). opened_in between.opened client page word || b) (sym (and_none (writes_word page word entry) (client == entry.who) e))
