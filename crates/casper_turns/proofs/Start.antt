use Rattle.std.proofs.Common.{◌≡◌, ℕ, [], true, refl, sym, ap, ◌∙◌, true≢false, subst, arith}
use Rattle.std.specs.Prelude.{Some, is_some}
use Rattle.casper_words.specs.declared.page.Right.{Right}
use Rattle.casper_words.specs.declared.page.Right.TheVariants as may
use Rattle.casper_model.specs.Client.{Client}
use Rattle.casper_model.specs.Held.{allows}
use Rattle.casper_model.specs.Own.{blank}
use Rattle.casper_model.specs.Rights.{Agrees}
use Rattle.casper_model.specs.Shared.{client_at, rights_at, of_client, new_shared}
use Rattle.casper_model.proofs.RunRights.{nobody_at}
use Rattle.casper_turns.specs.TurnLaws.{StartsGood, StartsGoodWithEach}
use Rattle.casper_turns.proofs.Lists.{nothing_in}

nobody_allowed : (pages limit who page : ℕ) (right : Right) → allows (rights_at (new_shared pages limit) who) page right ≡ true → ⊥
nobody_allowed pages limit who page right allowed =
    true≢false (sym allowed ∙ ap (λ place. allows (of_client [] (λ client. client.rights) place) page right) (nobody_at pages limit who))

nobody_live : (pages limit who : ℕ) (client : Client) → client_at (new_shared pages limit) who ≡ Some client → ⊥
nobody_live pages limit who client live = true≢false (ap is_some (sym live ∙ nobody_at pages limit who))

pub start_good : StartsGood
start_good pages limit = record {
  places = refl;
  nobody = refl;
  exclusive = λ one other page writes holds. absurd (nobody_allowed pages limit one page may.Write writes);
  exact = record { marks = tt; clients = tt };
  writers = λ who page holds. absurd (nobody_allowed pages limit who page may.Read holds);
  bare = λ who client fallen live fell. absurd (nobody_live pages limit who client live);
  marked = λ who client fallen live fell. absurd (nobody_live pages limit who client live);
  frozen = record { leads = λ one inside. absurd (nothing_in one inside); apart = tt; quiet = λ one inside. absurd (nothing_in one inside) };
  noted = λ one lost inside. absurd (nothing_in one inside);
  unfallen = λ one lost inside. absurd (nothing_in one inside);
  within = omega arith;
  caps = λ who client live. absurd (nobody_live pages limit who client live);
}

pub start_good_with : StartsGoodWithEach
start_good_with pages limit who capacity is = record {
  client = is;
  agrees = subst (λ place. Agrees place (blank who capacity)) (sym (nobody_at pages limit who)) (refl, refl);
  room = omega arith;
  few = omega arith;
  most = omega arith;
  calls = λ up call inside. absurd (nothing_in call inside);
}
