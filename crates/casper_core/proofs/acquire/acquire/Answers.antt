use Rattle.std.proofs.Common.{◌≡◌, ◌<◌, false, sym, ap, ◌∙◌, subst, arith, refl}
use Rattle.std.specs.Prelude.{IsSome}
use Rattle.std.proofs.Common.{rules}
use Rattle.std.proofs.lemmas.Option.{none-some}
use Rattle.casper_trail.specs.Modified.{is_modified}
use Rattle.casper_trail.specs.TrailView.{commit_count}
use Rattle.casper_model.specs.Vault.{VaultState}
use Rattle.casper_cache.specs.Own.{Own}
use Rattle.casper_hub.specs.HubView.{HubView, page_count, frame_in}
use Rattle.casper_hub.specs.Owned.{Owns}
use Rattle.casper_hub.specs.Turns.{Acquires, IsLoad}
use Rattle.casper_hub.specs.Words.{CacheIsRight}
use Rattle.casper_model.specs.Acquire.{acquire}
use Rattle.casper_core.specs.Loading.{OnlyReads, OnlyLoads}
use Rattle.casper_core.proofs.Loads.{pages_loaded, owns_loaded, loads_nothing, most_pass, fewer_unframed, turn_loaded, is_unframed}
use Rattle.casper_core.proofs.Acquires.{IsBehind, IsTurnBehind, load_of, turn_of, tells_nothing, page_wanted, load_fails, clean_wanted, capacity_of, behind_load, leaves_behind, holds_behind, turn_leaves, turn_holds}
use Rattle.casper_core.proofs.VaultReads.{reads_nothing, reads_again}
use Rattle.casper_core.proofs.acquire.acquire.Given as given
use Rattle.casper_core.proofs.acquire.acquire.Goals as goal

again : (g : given.Over) (first second third : g.row.V.Denot)
    → OnlyReads g.V.Vault.tells g.V.Vault.size g.V.Vault.image g.V.Vault.version g.V.Vault.room g.V.Vault.doubt g.V.Vault.images_now g.V.Vault.moment g.V.Vault.images_since g.V.Vault.faults g.V.Vault.leads_to first second
    → OnlyReads g.V.Vault.tells g.V.Vault.size g.V.Vault.image g.V.Vault.version g.V.Vault.room g.V.Vault.doubt g.V.Vault.images_now g.V.Vault.moment g.V.Vault.images_since g.V.Vault.faults g.V.Vault.leads_to second third
    → OnlyReads g.V.Vault.tells g.V.Vault.size g.V.Vault.image g.V.Vault.version g.V.Vault.room g.V.Vault.doubt g.V.Vault.images_now g.V.Vault.moment g.V.Vault.images_since g.V.Vault.faults g.V.Vault.leads_to first third
again g first second third =
    reads_again g.V.Vault.tells g.V.Vault.size g.V.Vault.image g.V.Vault.version g.V.Vault.room g.V.Vault.doubt g.V.Vault.images_now g.V.Vault.moment g.V.Vault.images_since g.V.Vault.faults g.V.Vault.leads_to
    g.met.V.Vault.now_counts g.met.V.Vault.only_now g.met.V.Vault.earlier_counts g.met.V.Vault.leads_to_itself g.met.V.Vault.leads_on first second third

pub acquire-requires-clause-client : goal.acquire-requires-clause-client
acquire-requires-clause-client g c = ap (λ (own : Own). own.client) c.loop-turn.invariant.own ∙ c.requires.client

pub acquire-requires-clause-owns : goal.acquire-requires-clause-owns
acquire-requires-clause-owns g c =
    subst (Owns c.loop-turn.hub) (sym c.loop-turn.invariant.own)
    (owns_loaded c.args.hub.now c.loop-turn.hub c.args.cache.now c.loop-turn.invariant.behind.loads c.requires.owns)

pub acquire-requires-clause-range : goal.acquire-requires-clause-range
acquire-requires-clause-range g c = λ want among.
    subst (λ count. want.page < count) (sym (pages_loaded c.args.hub.now c.loop-turn.hub c.loop-turn.invariant.behind.loads)) (c.requires.range want among)

pub loop-turn-init : goal.loop-turn-init
loop-turn-init g c = record {
  own = refl;
  behind = record { loads = loads_nothing c.args.hub.now; sound = c.requires.sound; frames = λ told base stored right. right };
  vault = reads_nothing g.V.Vault.tells g.V.Vault.size g.V.Vault.image g.V.Vault.version g.V.Vault.room g.V.Vault.doubt g.V.Vault.images_now g.V.Vault.moment g.V.Vault.images_since g.V.Vault.faults g.V.Vault.leads_to
      g.met.V.Vault.now_counts g.met.V.Vault.only_now g.met.V.Vault.earlier_counts g.met.V.Vault.leads_to_itself g.met.V.Vault.leads_on c.args.vault.now;
  count = omega (arith, most_pass (is_unframed c.args.hub.now) c.args.wants.now, c.requires.wants.few);
}

pub returns-in_err-reply-clause-leaves : goal.returns-in_err-reply-clause-leaves
returns-in_err-reply-clause-leaves g c =
    leaves_behind c.args.who g.V.Vault.tells (g.V.Vault.image c.args.vault.now) c.args.hub.now c.args.cache.now c.acquire.new.self
    (subst (IsBehind g.V.Vault.tells (g.V.Vault.image c.args.vault.now) c.args.hub.now) (sym c.in_err-reply.ensures.memory) c.loop-turn.invariant.behind)

pub returns-in_err-reply-clause-holds : goal.returns-in_err-reply-clause-holds
returns-in_err-reply-clause-holds g c =
    holds_behind c.args.who g.V.Vault.tells (g.V.Vault.image c.args.vault.now) c.args.hub.now c.args.cache.now c.acquire.new.self c.acquire.new.cache
    (subst (IsBehind g.V.Vault.tells (g.V.Vault.image c.args.vault.now) c.args.hub.now) (sym c.in_err-reply.ensures.memory) c.loop-turn.invariant.behind)
    c.requires.owns c.requires.client (c.in_err-reply.ensures.cache_stays ∙ c.loop-turn.invariant.own)

pub load-requires : goal.load-requires
load-requires g c =
    let inv = c.loop-turn.invariant in
    let load = load_of c.loop-turn.hub c.loop-turn.cache c.args.wants.now c.args.calls c.in_ok-reply.reply c.in-Load.page c.in-Load.marks c.acquire.new.self c.acquire.new.cache
    c.in-Load.is c.in_ok-reply.ensures.turn in
    let wanted = page_wanted c.loop-turn.hub c.loop-turn.cache c.args.wants.now c.args.calls c.in-Load.page c.in-Load.marks c.acquire.new.self c.acquire.new.cache inv.behind.sound load in
    let pages = ap (λ (hub : HubView). page_count hub) load.same ∙ pages_loaded c.args.hub.now c.loop-turn.hub inv.behind.loads in
    record {
      range = subst (λ page. page < page_count c.acquire.new.self) wanted.is
          (subst (λ count. wanted.want.page < count) (sym pages) (c.requires.range wanted.want wanted.among));
      clean = subst (λ page. is_modified c.acquire.new.self.trail page ≡ false) wanted.is
          (subst (λ (hub : HubView). is_modified hub.trail wanted.want.page ≡ false) (sym load.same) (clean_wanted c.loop-turn.hub inv.behind.sound wanted.want wanted.unframed));
      marks = load.counted ∙ ap (λ (hub : HubView). commit_count hub.trail) (sym load.same);
      size = inv.vault.same_size ∙ c.requires.size ∙ sym pages;
    }

pub returns-in_err-load-in-Load : goal.returns-in_err-load-in-Load
returns-in_err-load-in-Load g c =
    let inv = c.loop-turn.invariant in
    let load = load_of c.loop-turn.hub c.loop-turn.cache c.args.wants.now c.args.calls c.in_ok-reply.reply c.in-Load.page c.in-Load.marks c.acquire.new.self c.acquire.new.cache
    c.in-Load.is c.in_ok-reply.ensures.turn in
    let ensured = c.in_err-load-in-Load.ensures in
    let behind = behind_load g.V.Vault.tells (g.V.Vault.image c.args.vault.now) (g.V.Vault.image c.loop-turn.vault) c.args.hub.now c.loop-turn.hub c.acquire.new.self c.load.new.hub
    inv.behind load.same (λ told. ap (λ (t : VaultState). t.image) (inv.vault.told told)) ensured.hub ensured.sound ensured.frames in
    let own = load.own_same ∙ inv.own in
    record {
      turn = search rules;
      failed = search rules;
      memory = search (rules, behind.loads);
      cache_stays = search (rules, own);
      leaves = leaves_behind c.args.who g.V.Vault.tells (g.V.Vault.image c.args.vault.now) c.args.hub.now c.args.cache.now c.load.new.hub behind;
      holds = holds_behind c.args.who g.V.Vault.tells (g.V.Vault.image c.args.vault.now) c.args.hub.now c.args.cache.now c.load.new.hub c.acquire.new.cache behind c.requires.owns
          c.requires.client own;
      vault = again g c.args.vault.now c.loop-turn.vault c.load.new.vault inv.vault ensured.vault;
    }

pub returns-then-not-branch : goal.returns-then-not-branch
returns-then-not-branch g c =
    let inv = c.loop-turn.invariant in
    let load = load_of c.loop-turn.hub c.loop-turn.cache c.args.wants.now c.args.calls c.in_ok-reply.reply c.in-Load.page c.in-Load.marks c.acquire.new.self c.acquire.new.cache
    c.in-Load.is c.in_ok-reply.ensures.turn in
    let ensured = c.in_ok-load-in-Load.ensures in
    let behind = behind_load g.V.Vault.tells (g.V.Vault.image c.args.vault.now) (g.V.Vault.image c.loop-turn.vault) c.args.hub.now c.loop-turn.hub c.acquire.new.self c.load.new.hub
    inv.behind load.same (λ told. ap (λ (t : VaultState). t.image) (inv.vault.told told)) ensured.hub ensured.sound ensured.frames in
    let own = load.own_same ∙ inv.own in
    record {
      turn = load_fails c.args.hub.now c.loop-turn.hub c.args.cache.now c.args.wants.now c.args.calls c.in-Load.page c.in-Load.marks c.acquire.new.self c.acquire.new.cache c.load.new.hub
          inv.behind.loads behind.loads
          (subst (λ one. IsLoad c.loop-turn.hub one c.args.wants.now c.args.calls c.in-Load.page c.in-Load.marks c.acquire.new.self c.acquire.new.cache) inv.own load);
      failed = λ is. let rose = ensured.failed (search rules) in omega (arith, rose, inv.vault.never_falls);
      memory = tt;
      cache_stays = tt;
      leaves = leaves_behind c.args.who g.V.Vault.tells (g.V.Vault.image c.args.vault.now) c.args.hub.now c.args.cache.now c.load.new.hub behind;
      holds = holds_behind c.args.who g.V.Vault.tells (g.V.Vault.image c.args.vault.now) c.args.hub.now c.args.cache.now c.load.new.hub c.acquire.new.cache behind c.requires.owns
          c.requires.client own;
      vault = again g c.args.vault.now c.loop-turn.vault c.load.new.vault inv.vault ensured.vault;
    }

pub returns-in_default : goal.returns-in_default
returns-in_default g c =
    let inv = c.loop-turn.invariant in
    let ensured = c.in_ok-reply.ensures in
    let moved = subst (λ one. Acquires c.loop-turn.hub one c.args.wants.now c.args.calls c.in_ok-reply.reply c.acquire.new.self c.acquire.new.cache) inv.own ensured.turn in
    let turn = turn_of c.loop-turn.hub c.args.cache.now c.args.wants.now c.args.calls c.in_ok-reply.reply c.acquire.new.self c.acquire.new.cache c.in_default.not-Load moved in
    let behind : IsTurnBehind c.args.who c.loop-turn.hub c.args.cache.now c.acquire.new.self c.acquire.new.cache = record {
      client = ensured.client_after;
      owned = ensured.owned;
      others = ensured.others;
      still = ensured.still;
      sound = ensured.sound;
      frames = λ base frames words. ensured.frames base frames (subst (CacheIsRight base c.loop-turn.hub) (sym inv.own) words);
      words = λ base frames words. ensured.words base frames (subst (CacheIsRight base c.loop-turn.hub) (sym inv.own) words);
    } in
    record {
      turn = (
        turn_loaded (λ shared own. acquire shared own c.args.wants.now c.args.calls) c.in_ok-reply.reply c.args.hub.now c.loop-turn.hub c.args.cache.now c.acquire.new.self
            c.acquire.new.cache inv.behind.loads turn,
        tells_nothing c.in_ok-reply.reply c.in_default.not-Load,
      );
      failed = λ is. absurd (none-some c.in_ok-reply.reply (sym is));
      memory = tt;
      cache_stays = tt;
      leaves = turn_leaves c.args.who g.V.Vault.tells (g.V.Vault.image c.args.vault.now) c.args.hub.now c.loop-turn.hub c.args.cache.now c.acquire.new.self c.acquire.new.cache inv.behind behind;
      holds = turn_holds c.args.who g.V.Vault.tells (g.V.Vault.image c.args.vault.now) c.args.hub.now c.loop-turn.hub c.args.cache.now c.acquire.new.self c.acquire.new.cache inv.behind behind
          (capacity_of c.loop-turn.hub c.args.cache.now c.args.wants.now c.args.calls c.in_ok-reply.reply c.acquire.new.self c.acquire.new.cache inv.behind.sound turn);
      vault = inv.vault;
    }

pub loop-turn-preserved : goal.loop-turn-preserved
loop-turn-preserved g c =
    let inv = c.loop-turn.invariant in
    let load = load_of c.loop-turn.hub c.loop-turn.cache c.args.wants.now c.args.calls c.in_ok-reply.reply c.in-Load.page c.in-Load.marks c.acquire.new.self c.acquire.new.cache
    c.in-Load.is c.in_ok-reply.ensures.turn in
    let wanted = page_wanted c.loop-turn.hub c.loop-turn.cache c.args.wants.now c.args.calls c.in-Load.page c.in-Load.marks c.acquire.new.self c.acquire.new.cache inv.behind.sound load in
    let ensured = c.in_ok-load-in-Load.ensures in
    let behind = behind_load g.V.Vault.tells (g.V.Vault.image c.args.vault.now) (g.V.Vault.image c.loop-turn.vault) c.args.hub.now c.loop-turn.hub c.acquire.new.self c.load.new.hub
    inv.behind load.same (λ told. ap (λ (t : VaultState). t.image) (inv.vault.told told)) ensured.hub ensured.sound ensured.frames in
    let framed = ensured.loaded (search rules) in
    let fewer = fewer_unframed c.loop-turn.hub c.load.new.hub c.args.wants.now wanted.want (subst (λ one. OnlyLoads one c.load.new.hub) load.same ensured.hub) wanted.among wanted.unframed
    (subst (λ page. IsSome (frame_in c.load.new.hub.pages page)) (sym wanted.is) framed) in
    record {
      own = load.own_same ∙ inv.own;
      behind = behind;
      vault = again g c.args.vault.now c.loop-turn.vault c.load.new.vault inv.vault ensured.vault;
      count = omega (arith, fewer, inv.count);
    }
