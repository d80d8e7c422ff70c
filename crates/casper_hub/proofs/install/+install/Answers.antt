use Rattle.std.proofs.Common.{rules, ◌≡◌, ◌+◌, ◌-◌, ◌≤◌, suc, length, take, drop, sym, ap, ◌∙◌, arith}
use Rattle.casper_cache.specs.Own.{Own}
use Rattle.casper_hub.proofs.Deciding.{read_within}
use Rattle.casper_hub.proofs.Installing.{first_and_rest, in_the_rest, installed_undone, length_with_page}
use Rattle.casper_hub.proofs.install.«+install».Goals as goal

pub install_one-requires-clause-page : goal.install_one-requires-clause-page
install_one-requires-clause-page t c = c.requires.pages c.want-item.result (read_within c.args.wants.now 0 c.want-item.result (omega arith) c.want-item.is)

pub install-requires : goal.install-requires
install-requires t c =
    let one : length c.install_one.new.cache.held ≤ length c.args.cache.now.held + 1 =
    omega (arith, ap (λ (own : Own). length own.held) c.in_ok-installed.ensures.ok, length_with_page c.args.pages.now c.args.cache.now.held c.want-item.result) in
    let rest : length c.args.wants.now ≡ suc (length (take (length c.args.wants.now - 1) (drop 1 c.args.wants.now))) =
    ap length (first_and_rest c.args.wants.now c.want-item.result (omega arith) c.want-item.is) in
    let same : c.install_one.new.cache.capacity ≡ c.args.cache.now.capacity = ap (λ (own : Own). own.capacity) c.in_ok-installed.ensures.ok in (
      search rules,
      (
        λ want inside. c.requires.pages want (in_the_rest c.args.wants.now c.want-item.result want (omega arith) c.want-item.is inside),
        (
          λ want inside. c.requires.framed want (in_the_rest c.args.wants.now c.want-item.result want (omega arith) c.want-item.is inside),
          omega (arith, one, same, rest, c.requires.few),
        ),
      ),
    )

pub returns-then-installed-clause-err : goal.returns-then-installed-clause-err
returns-then-installed-clause-err t c =
    installed_undone c.args.pages.now c.args.cache.now c.install_one.new.cache c.install.new.cache c.give_up.new.self c.want-item.result
    (sym c.in_ok-installed.ensures.told ∙ c.if-installed.true) c.in_ok-installed.ensures.ok c.in-Err.ensures.err c.give_up.ensures.given
