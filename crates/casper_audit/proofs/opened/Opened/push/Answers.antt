use Rattle.std.proofs.Common.{◌-◌, ◌∷◌, ◌++◌, [], arith, sym, ap, ◌∙◌, List}
use Rattle.casper_audit.specs.declared.words.Place.{Place}
use Rattle.casper_audit.specs.Opened.{places_in}
use Rattle.casper_audit.proofs.OpenedLemmas.{set_lists, list_at}
use Rattle.casper_audit.proofs.opened.Opened.push.Goals as goal

pub returns : goal.returns
returns c = λ client is.
    set_lists c.args.self.now.places.items (λ list. list.items) (c.number.result - 1) c.push.new.self (places_in c.args.self.now c.args.who ++ c.args.place ∷ []) client c.args.who
    is (omega (arith, c.number.ensures.number), omega (arith, c.number.ensures.number)) (omega arith) (omega arith)
    (c.in_ok-push.ensures.items ∙ ap (λ (places : List Place). places ++ c.args.place ∷ [])
    (sym (list_at c.args.self.now.places.items (λ list. list.items) (c.number.result - 1) c.index_mut-places.result.now c.args.who (omega arith) (omega arith) c.index_mut-places.ensures.value)))
