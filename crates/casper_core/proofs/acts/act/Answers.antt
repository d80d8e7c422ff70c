use Rattle.std.proofs.Common.{sym, ap, ◌∙◌, subst}
use Rattle.casper_model.specs.Own as machine
use Rattle.casper_hub.specs.Owned.{own_of}
use Rattle.casper_hub.proofs.StandsFor.{stands_for}
use Rattle.casper_core.proofs.Acquires.{serve_capacity, stabilise_capacity}
use Rattle.casper_core.proofs.Loses.{lost_gives, lost_leaves, lost_holds}
use Rattle.casper_core.specs.Acting.{IsTurnResult, outside_of}
use Rattle.casper_core.specs.ClientTurns.{client_turn}
use Rattle.casper_core.specs.Shaped.{client_turn_with}
use Rattle.casper_model.specs.declared.event.Event.{Event}
use Rattle.casper_model.specs.Step.{lose_turn}
use Rattle.casper_core.proofs.acts.act.Goals as goal

pub returns-in_ok-serve-in-Serve-clause-holds : goal.returns-in_ok-serve-in-Serve-clause-holds
returns-in_ok-serve-in-Serve-clause-holds g c =
    let ensured = c.in_ok-serve-in-Serve.ensures in
    record {
      client = ensured.client_after;
      capacity = ap (λ (own : machine.Own). own.capacity) (ensured.turn.owns (stands_for c.args.hub.now c.requires.sound.stands).shared (stands_for c.args.hub.now c.requires.sound.stands).shows)
          ∙ serve_capacity (stands_for c.args.hub.now c.requires.sound.stands).shared (own_of c.args.cache.now);
      owns = ensured.owned;
      words = λ told base stored frames words. ensured.words base frames words;
    }

pub returns-in_ok-stabilise-in-Stabilise-clause-holds : goal.returns-in_ok-stabilise-in-Stabilise-clause-holds
returns-in_ok-stabilise-in-Stabilise-clause-holds g c =
    let ensured = c.in_ok-stabilise-in-Stabilise.ensures in
    let stands = stands_for c.args.hub.now c.requires.sound.stands in
    record {
      client = ensured.client_after;
      capacity = ap (λ (own : machine.Own). own.capacity) (ensured.turn.owns stands.shared stands.shows) ∙ stabilise_capacity stands.shared (own_of c.args.cache.now);
      owns = ensured.owned;
      words = λ told base stored frames words. ensured.words base frames words;
    }

pub returns-in-Lose-clause-makes : goal.returns-in-Lose-clause-makes
returns-in-Lose-clause-makes g c = λ state part.
    subst (λ (one : Event). IsTurnResult c.args.who state (client_turn_with c.args.who one c.answer_of_lose.result state) c.answer_of_lose.result c.lose.new.self (own_of c.args.cache.now))
    (sym c.in-Lose.is)
    (subst (λ said. IsTurnResult c.args.who state (lose_turn c.args.who state) said c.lose.new.self (own_of c.args.cache.now)) (sym c.answer_of_lose.ensures)
    (lost_gives c.args.who c.args.hub.now c.args.cache.now c.lose.result c.lose.new.self c.lose.ensures.turn state part))

pub returns-in-Lose-clause-does : goal.returns-in-Lose-clause-does
returns-in-Lose-clause-does g c = λ told state part.
    subst (λ (one : Event). IsTurnResult c.args.who state (client_turn c.args.who one (outside_of c.answer_of_lose.result) state) c.answer_of_lose.result c.lose.new.self (own_of c.args.cache.now))
    (sym c.in-Lose.is)
    (subst (λ said. IsTurnResult c.args.who state (lose_turn c.args.who state) said c.lose.new.self (own_of c.args.cache.now)) (sym c.answer_of_lose.ensures)
    (lost_gives c.args.who c.args.hub.now c.args.cache.now c.lose.result c.lose.new.self c.lose.ensures.turn state
    (record { shared = part.shared; place = part.place; part = part.part })))

pub returns-in-Lose-clause-leaves : goal.returns-in-Lose-clause-leaves
returns-in-Lose-clause-leaves g c =
    lost_leaves c.args.who g.V.Vault.tells (g.V.Vault.image c.args.vault.now) c.args.hub.now c.args.cache.now c.lose.new.self c.lose.ensures.others c.lose.ensures.still
    c.lose.ensures.sound c.lose.ensures.frames

pub returns-in-Lose-clause-holds : goal.returns-in-Lose-clause-holds
returns-in-Lose-clause-holds g c =
    lost_holds c.args.who g.V.Vault.tells (g.V.Vault.image c.args.vault.now) c.args.hub.now c.args.cache.now c.lose.new.self c.lose.ensures.others c.lose.ensures.still
    c.requires.sound c.requires.owns c.requires.client
