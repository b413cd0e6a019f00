use Prim.Native.Nat.{ℕ, ◌+◌, ◌-◌, ◌/◌, ◌^◌, ◌≤◌, ◌<◌, min}
use mathlib.Core.Path.{◌≡◌, refl, sym, ap, ◌∙◌}
use mathlib.Core.Bool.{Bool, cond}
use mathlib.Core.List.{List, [], ◌∷◌}
use lib.Dec.{eqb}
use lib.ListN.{get_or, length}
use borrow.Author.Tests.{eq-eqb, ne_eqb}
use Rattle.std.specs.Prelude.{Option, None, Some}
use Rattle.grammar.specs.Grammar.{top, Counted, counted}
use Rattle.cltl.specs.Meaning.{Rows, Proper, among}
use Rattle.cltl.specs.Rules.{asked, quorum, text as text_of}
use Rattle.mask.specs.Mask.{on, signed, Row}
use Rattle.table.specs.Table.{told, Kept}
use Rattle.table.specs.Layout.{pairs_at}
use Rattle.table.specs.Keeping.{kept_all, kept_then}
use Rattle.quorum.specs.Words.{within}
use Rattle.drift.specs.declared.Ground.{Ground}
use Rattle.drift.specs.declared.Joined.{Joined}
use Rattle.drift.specs.Tree.{Ordered, kind_at, first_at, third_at, over_of, amount_at, inner_tree}
use Rattle.drift.specs.Lent.{who_of, Lent, ClauseNodes}
use Rattle.drift.specs.Answer.{rows_on, InnerTable, Gathered, ClauseJudged}
use Rattle.drift.specs.NodeTruth.{count_low}
use Rattle.drift.specs.Needing.{up_to}
use Rattle.drift.specs.Order.{count_need_lem}
use Rattle.drift.specs.Placing.{fewer_pairs}
use Rattle.drift.specs.Lending.{still_lent}
use Rattle.drift.specs.Tallying.{still_tallied}
use Rattle.drift.specs.InnerTables.{text-signed, count_signed}
use Rattle.drift.specs.Carts.{who_is}
use Rattle.drift.specs.ClauseRows.{count_judged}
use Rattle.drift.specs.Gathering.{no_counts, alone_gathered, count_gathered}
use native.Mathlib.Omega.{arith}
use Rattle.drift.proofs.clauses.leaf_judged.Goals as goal

-- a count's text stands below it, and needs as many pairs
text-below : (nodes needs : List ℕ) (k x : ℕ) → ClauseNodes nodes needs k → 10 ≤ kind_at nodes k → x ≡ first_at nodes k
    → (x < k) × (get_or needs x 0 ≡ get_or needs k 0)
text-below nodes needs k x n count ex = (
  omega (arith, ex, count_low nodes k n.ordered count),
  ap (λ (i : ℕ). get_or needs i 0) ex ∙ count_need_lem nodes needs k n.needed count,
)

-- the carts of a count are carts of the floor
low : (g : Ground) (t b : List ℕ) → Lent g t b → (who o : ℕ) → who ≡ who_of b o → who < 2 ^ g.carts
low g t b lent who o e = omega (arith, e, lent.groups o)

carts-are : (g : Ground) (t b : List ℕ) → Lent g t b → (bears : ℕ → ℕ → ℕ → Bool) (who o : ℕ) → who ≡ who_of b o
    → (i : ℕ) → i < g.carts → on who i ≡ among (rows_on g.carts g.lasso.h g.lasso.l bears b) (over_of o) i
carts-are g t b lent bears who o e i q = ap (λ (x : ℕ). on x i) e ∙ who_is g t b lent bears o i q

-- what is told of a count, by the table of its text
module _ (g : Ground) (t b : List ℕ) (lent : Lent g t b) (nodes : List ℕ) (k x who from : ℕ) (after : List ℕ) (p : Bool)
    (o : Ordered nodes (k + 1)) (count : 10 ≤ kind_at nodes k) (ex : x ≡ first_at nodes k) (ew : who ≡ who_of b (third_at nodes k / 4))
    (bears : ℕ → ℕ → ℕ → Bool) (inner : InnerTable (rows_on g.carts g.lasso.h g.lasso.l bears b) nodes x after from) where
  abbrev P : Rows
  P = rows_on g.carts g.lasso.h g.lasso.l bears b

  abbrev this : Bool × Counted
  this = (p, counted (inner_tree nodes (length nodes) x) (amount_at nodes k))

  proper : Proper P
  proper = record { some = g.some; lap = g.lasso.lap }

  text-there : x < length nodes
  text-there = omega (arith, ex, count_low nodes k o count, o.room)

  texts-are : (i s : ℕ) → i < g.carts → s < g.lasso.h → within who (λ i s. signed p (told after from i s)) i s ≡ text_of P i this s
  texts-are i s q u = text-signed P proper nodes _ x _ p text-there inner (amount_at nodes k) who (carts-are g t b lent bears who _ ew) i q s u

  judged : (m row : ℕ) → m ≡ asked P this
      → Row g.lasso.h row (quorum g.lasso.h g.lasso.l g.carts g.drift m (within who (λ i s. signed p (told after from i s))))
      → (j : Option Joined) → Gathered P (cond (eqb g.drift 0) [] (this ∷ [])) after j
      → ClauseJudged P g.drift nodes p k after (record { row = row; joined = j })
  judged m row em e j f =
      count_judged P g.drift nodes proper p k _ _ refl ex _ _ count
      (rw (sym em)
      (count_signed P proper nodes _ x _ p text-there inner (amount_at nodes k) who (carts-are g t b lent bears who _ ew) g.drift _ _ e)) f

pub inner_table-from-requires : goal.inner_table-from-requires
inner_table-from-requires c =
    let a = c.args in
    let n = c.requires.clause_nodes.0 in
    let room = c.requires.pairs_from in
    let x = text-below a.c.nodes.now a.c.needs.now a.k _ n c.requires.clause_nodes.1 c.first_at.ensures in record {
      constants = c.requires.lent.constants;
      ordered = up_to a.c.nodes.now a.c.needs.now a.k _ x.0 (n.ordered, n.needed);
      pairs_from = (room.0, fewer_pairs a.g.lasso.h a.at _ _ _ room.1 (omega (arith, x.1)));
      h_in_bounds = c.requires.lent.pairs;
    }

pub count_told-row-requires : goal.count_told-row-requires
count_told-row-requires c =
    let a = c.args in
    let same : Kept (pairs_at a.g.marks a.g.lasso.h) a.t.now c.inner_table-from.new.t =
    kept_then _ a.at a.t.now a.t.now _ c.requires.pairs_from.0 (kept_all _ a.t.now) c.inner_table-from.ensures.kept.0 in record {
      lent = still_lent a.g a.t.now a.bits.now _ c.requires.lent same;
      tallies = still_tallied a.g a.t.now _ a.tallies.now same c.requires.tallies;
      h_in_bounds = (c.inner_table-from.ensures.kept.2, low a.g a.t.now a.bits.now c.requires.lent _ _ c.who_at-who.ensures);
    }

-- without drift nothing is joined
pub returns-then-g-eq0 : goal.returns-then-g-eq0
returns-then-g-eq0 c =
    let a = c.args in
    let g = a.g in record {
      kept = (c.inner_table-from.ensures.kept.0, tt, c.count_told-row.ensures.tallies_2);
      by_index = λ bears shown.
          let n = c.requires.clause_nodes in
          let carts = carts-are g a.t.now a.bits.now c.requires.lent bears _ _ c.who_at-who.ensures in
          let P = rows_on g.carts g.lasso.h g.lasso.l bears a.bits.now in
          judged g a.t.now a.bits.now c.requires.lent a.c.nodes.now a.k _ _ _ _ a.p n.0.ordered n.1 c.first_at.ensures c.who_at-who.ensures bears
          (c.inner_table-from.ensures.by_index bears a.bits.now shown) _ _ (c.asked_at-m.ensures P top refl carts) c.count_told-row.ensures.row None
          (rw (eq-eqb g.drift 0 c.if-g-eq0.true) (alone_gathered P c.args.g.few [] (no_counts P) _));
    }

pub returns : goal.returns
returns c =
    let a = c.args in
    let g = a.g in
    let lent = c.requires.lent in
    let kept = c.inner_table-from.ensures.kept in record {
      kept = (kept.0, (kept.1, kept.2), c.count_told-row.ensures.tallies_2);
      by_index = λ bears shown.
          let n = c.requires.clause_nodes in
          let inner = c.inner_table-from.ensures.by_index bears a.bits.now shown in
          let carts = carts-are g a.t.now a.bits.now lent bears _ _ c.who_at-who.ensures in
          let P = rows_on g.carts g.lasso.h g.lasso.l bears a.bits.now in
          let asks = c.asked_at-m.ensures P top refl carts in
          judged g a.t.now a.bits.now lent a.c.nodes.now a.k _ _ _ _ a.p n.0.ordered n.1 c.first_at.ensures c.who_at-who.ensures bears
          inner _ _ asks c.count_told-row.ensures.row (Some _)
          (rw (ne_eqb g.drift 0 c.if-g-eq0.false)
          (count_gathered P g.few _ _ _ (c.slack_of.ensures ∙ ap (λ (m : ℕ). min 32 (m - 1)) asks)
          (low g a.t.now a.bits.now lent _ _ c.who_at-who.ensures) carts
          (texts-are g a.t.now a.bits.now lent a.c.nodes.now a.k _ _ _ _ a.p n.0.ordered n.1 c.first_at.ensures c.who_at-who.ensures bears inner)));
    }
