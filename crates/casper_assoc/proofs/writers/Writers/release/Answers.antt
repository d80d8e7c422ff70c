use Rattle.std.proofs.Common.{◌≡◌, ℕ, ◌+◌, ◌<◌, ◌≤◌, cond, nat_eq, refl, None, List, Option, length, get_or, set, sym, ap, ◌∙◌, subst, arith}
use Rattle.std.proofs.lemmas.List.{with_items_is}
use Rattle.casper_words.specs.Roomed.{Roomed}
use Rattle.casper_assoc.specs.Written.{is_listed, list_at, ForgetsWriters, AreLists}
use Rattle.casper_assoc.proofs.WrittenLists.{listed_within, list_read, forgets_writers, lists_released}
use Rattle.casper_assoc.proofs.writers.Writers.release.Goals as goal

pub forget_writers-requires : goal.forget_writers-requires
forget_writers-requires c page listed =
    let client : c.number.result < 33 = omega (arith, c.number.ensures.most) in
    let read : c.index_mut-list.result.now ≡ list_at c.self.inside.lists.items c.number.result =
    list_read c.self.inside.writers.items c.self.inside.lists.items c.number.result c.index_mut-list.result.now c.self.invariant client
    c.index_mut-list.ensures.value in
    let same : c.as_slice.result.now ≡ (list_at c.self.inside.lists.items c.number.result).items = c.as_slice.ensures
    ∙ ap (λ (r : Roomed ℕ). r.items) read in
    let below : page < length c.self.inside.writers.items =
    listed_within c.self.inside.writers.items c.self.inside.lists.items c.number.result page c.self.invariant client
    (ap (is_listed page) (sym same) ∙ listed) in
    subst (λ (l : List (Option ℕ)). page < length l) (sym c.deref_mut.ensures.value) below

pub invariant_of-self : goal.invariant_of-self
invariant_of-self c =
    let client : c.number.result < 33 = omega (arith, c.number.ensures.most) in
    let read : c.index_mut-list.result.now ≡ list_at c.self.inside.lists.items c.number.result =
    list_read c.self.inside.writers.items c.self.inside.lists.items c.number.result c.index_mut-list.result.now c.self.invariant client
    c.index_mut-list.ensures.value in
    let same : c.as_slice.result.now ≡ (list_at c.self.inside.lists.items c.number.result).items = c.as_slice.ensures
    ∙ ap (λ (r : Roomed ℕ). r.items) read in
    let kept = with_items_is c.self.inside.writers c.forget_writers.new.writers (c.forget_writers.ensures.count
    ∙ c.deref_mut.ensures.len) in
    let written = c.self.invariant.written c.number.result client in
    let forgets : ForgetsWriters (λ writer. nat_eq writer c.number.result) c.self.inside.writers.items c.forget_writers.new.writers =
    forgets_writers c.self.inside.writers.items c.forget_writers.new.writers c.number.result c.number.result
    ((list_at c.self.inside.lists.items c.number.result).items) refl written
    (λ page. c.forget_writers.ensures.forgotten page
    ∙ ap (λ (l : List ℕ). cond (is_listed page l) None (get_or c.deref_mut.result.now page None)) same
    ∙ ap (λ (l : List (Option ℕ)). cond (is_listed page ((list_at c.self.inside.lists.items c.number.result).items)) None
    (get_or l page None)) c.deref_mut.ensures.value) in
    let room : length ((list_at c.self.inside.lists.items c.number.result).items) +
    (list_at c.self.inside.lists.items c.number.result).room ≤ c.clear.new.self.room =
    subst (λ (r : Roomed ℕ). length (r.items) + r.room ≤ c.clear.new.self.room) read c.clear.ensures.room in
    subst (λ (l : List (Option ℕ)). AreLists l (set c.self.inside.lists.items c.number.result c.clear.new.self)) (sym kept)
    (lists_released c.self.inside.writers.items c.forget_writers.new.writers c.self.inside.lists.items c.number.result c.clear.new.self
    c.self.invariant client
    (c.forget_writers.ensures.count ∙ ap (λ (l : List (Option ℕ)). length l) c.deref_mut.ensures.value) forgets c.clear.ensures.empty room)

pub returns-clause-writers : goal.returns-clause-writers
returns-clause-writers c =
    let client : c.number.result < 33 = omega (arith, c.number.ensures.most) in
    let read : c.index_mut-list.result.now ≡ list_at c.self.inside.lists.items c.number.result =
    list_read c.self.inside.writers.items c.self.inside.lists.items c.number.result c.index_mut-list.result.now c.self.invariant client
    c.index_mut-list.ensures.value in
    let same : c.as_slice.result.now ≡ (list_at c.self.inside.lists.items c.number.result).items = c.as_slice.ensures
    ∙ ap (λ (r : Roomed ℕ). r.items) read in
    let kept = with_items_is c.self.inside.writers c.forget_writers.new.writers (c.forget_writers.ensures.count
    ∙ c.deref_mut.ensures.len) in
    let written = c.self.invariant.written c.number.result client in
    let forgets : ForgetsWriters (λ writer. nat_eq writer c.args.who) c.self.inside.writers.items c.forget_writers.new.writers =
    forgets_writers c.self.inside.writers.items c.forget_writers.new.writers c.number.result c.args.who
    ((list_at c.self.inside.lists.items c.number.result).items) c.number.ensures.number written
    (λ page. c.forget_writers.ensures.forgotten page
    ∙ ap (λ (l : List ℕ). cond (is_listed page l) None (get_or c.deref_mut.result.now page None)) same
    ∙ ap (λ (l : List (Option ℕ)). cond (is_listed page ((list_at c.self.inside.lists.items c.number.result).items)) None
    (get_or l page None)) c.deref_mut.ensures.value) in
    subst (λ (l : List (Option ℕ)). ForgetsWriters (λ writer. nat_eq writer c.args.who) c.args.self.now l) (sym kept)
    (subst (λ (l : List (Option ℕ)). ForgetsWriters
    (λ writer. nat_eq writer c.args.who) l c.forget_writers.new.writers) c.self.view_is forgets)
