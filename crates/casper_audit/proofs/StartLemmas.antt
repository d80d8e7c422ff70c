use Rattle.std.proofs.Common.{◌≡◌, ℕ, arith, Bool, true, false, cond, List, [], ◌∷◌, ◌++◌, Some, None, ap, sym, ◌∙◌, refl}
use Rattle.std.proofs.lemmas.Bool.{true≢false}
use Rattle.casper_words.specs.Crew.{IsClient}
use Rattle.casper_trail.specs.Association.{alone}
use Rattle.casper_trail.proofs.Growth.{alone_without_entries}
use Rattle.casper_audit.specs.declared.parse.BaseWord.{BaseWord}
use Rattle.casper_audit.specs.declared.words.Place.{Place}
use Rattle.casper_audit.specs.declared.words.Values.{Values}
use Rattle.casper_audit.specs.declared.ledger.Ledger.{Ledger}
use Rattle.casper_audit.specs.Text.{base_of}
use Rattle.casper_audit.specs.Words.{same_place, values_in, zeros}
use Rattle.casper_audit.specs.Groups.{group_in}
use Rattle.casper_audit.specs.Opened.{places_in, is_among, opened_in}
use Rattle.casper_audit.specs.Keeps.{IsLedger, SetsBoth, writer_in}
use Rattle.casper_audit.proofs.BaseLemmas.{base_more, base_none}

nothing_some : {X P : Type 0} (x : X) → None ≡ Some x → P
nothing_some x h = absurd (let e : None ≡ Some x = h in cc)

-- before any line
pub ledger_first : (ledger : Ledger) → ((place : Place) → values_in ledger.words place ≡ zeros) → ((page : ℕ) → writer_in ledger page ≡ None)
    → ((client : ℕ) → places_in ledger.opened client ≡ []) → ((client : ℕ) → IsClient client → group_in ledger.groups client ≡ alone client)
    → IsLedger (base_of []) [] ledger
ledger_first ledger values writers places groups = record {
  clients = tt;
  live_is = λ page word below within. ap (λ (v : Values). v.live) (values (record { page = page; word = word })) ∙ sym (base_none page word below within);
  stable_is = λ page word below within. ap (λ (v : Values). v.stable) (values (record { page = page; word = word })) ∙ sym (base_none page word below within);
  written = λ page who is. nothing_some who (sym (writers page) ∙ is);
  unwritten = λ page write is inside writes. omega (arith, inside.1);
  has = λ write inside writes. absurd (omega (arith, inside.1));
  had = λ who page word is found. absurd (true≢false (sym found ∙ ap (λ list. is_among list (record { page = page; word = word })) (places who)));
  groups = λ client is. groups client is ∙ sym (alone_without_entries [] client (λ entry inside same. omega (arith, inside.1)));
}

-- after one word more before the trail
pub ledger_base : (words : List BaseWord) (last : BaseWord) (before after : Ledger) → SetsBoth (record { page = last.page; word = last.word }) last.value before after
    → IsLedger (base_of words) [] before → IsLedger (base_of (words ++ last ∷ [])) [] after
ledger_base words last before after sets keeps = record {
  clients = tt;
  live_is = λ page word below within.
      ap (λ (v : Values). v.live) (sets.values (record { page = page; word = word }))
      ∙ live_cond (same_place place (record { page = page; word = word })) (values_in before.words (record { page = page; word = word }))
      ∙ ap (λ (v : ℕ). cond (same_place place (record { page = page; word = word })) last.value v) (keeps.live_is page word below within)
      ∙ sym (base_more words last page word below within);
  stable_is = λ page word below within.
      ap (λ (v : Values). v.stable) (sets.values (record { page = page; word = word }))
      ∙ stable_cond (same_place place (record { page = page; word = word })) (values_in before.words (record { page = page; word = word }))
      ∙ ap (λ (v : ℕ). cond (same_place place (record { page = page; word = word })) last.value v) (keeps.stable_is page word below within)
      ∙ sym (base_more words last page word below within);
  written = λ page who is. keeps.written page who (sym (ap (λ writers. writer_in (record before { writers = writers }) page) sets.writers) ∙ is);
  unwritten = λ page write is inside writes. omega (arith, inside.1);
  has = λ write inside writes. absurd (omega (arith, inside.1));
  had = λ who page word is found. keeps.had who page word is (sym (ap (λ opened. opened_in opened who page word) sets.opened) ∙ found);
  groups = λ client is. ap (λ groups. group_in groups client) sets.groups ∙ keeps.groups client is;
}
  where
    place : Place
    place = record { page = last.page; word = last.word }

    live_cond : (b : Bool) (own : Values) → (cond b (record { live = last.value; stable = last.value }) own).live ≡ cond b last.value own.live
    live_cond true own = refl
    live_cond false own = refl

    stable_cond : (b : Bool) (own : Values) → (cond b (record { live = last.value; stable = last.value }) own).stable ≡ cond b last.value own.stable
    stable_cond true own = refl
    stable_cond false own = refl
