use Rattle.std.proofs.Common.{◌≡◌, ◌<◌, ◌∷◌, ◌++◌, ℕ, None, Option, List, [], length, get_or, sym, ◌∙◌, ap, subst, arith}
use Rattle.casper_words.specs.Roomed.{Roomed}
use Rattle.casper_assoc.specs.Written.{list_at}
use Rattle.casper_assoc.proofs.WrittenLists.{lists_labelled, room_for, list_read, none_read, on_ok}
use Rattle.casper_assoc.proofs.writers.Writers.label.Goals as goal

pub invariant_of-self : goal.invariant_of-self
invariant_of-self c =
    let client : c.number.result < 33 = omega (arith, c.number.ensures.most) in
    let read : c.index_mut-list.result.now ≡ list_at c.self.inside.lists.items c.number.result =
    list_read c.self.inside.writers.items c.self.inside.lists.items c.number.result c.index_mut-list.result.now c.self.invariant client
    c.index_mut-list.ensures.value in
    let within : c.args.page < length c.self.inside.writers.items =
    subst (λ (l : List (Option ℕ)). c.args.page < length l) (sym c.self.view_is) c.requires in
    let none : get_or c.self.inside.writers.items c.args.page None ≡ None =
    none_read c.self.inside.writers.items c.args.page c.page.inside.0 c.index.result.now c.is_none.result c.page.view_is c.index.ensures
    within c.is_none.ensures c.if-is_none.true in
    let some : 0 < c.index_mut-list.result.now.room =
    subst (λ (r : Roomed ℕ). 0 < r.room) (sym read)
    (room_for c.self.inside.writers.items c.self.inside.lists.items c.number.result c.args.page c.self.invariant client within none) in
    lists_labelled c.self.inside.writers.items c.self.inside.lists.items c.args.page c.page.inside.0 c.number.result c.args.who
    c.push-pushed.new.self c.self.invariant
    c.number.ensures.number c.page.view_is client within none
    (on_ok c.push-pushed.result (c.push-pushed.ensures.succeeds some) c.push-pushed.ensures.ok
    ∙ ap (λ (r : Roomed ℕ). r.items ++ c.args.page ∷ []) read)
    (sym (ap (λ (r : Roomed ℕ). r.room) read) ∙ c.push-pushed.ensures.room some)
