-- What is settled after k paths of the listing are taken, none of which qualifies: the next one is accepted, or all are refused, or the
-- budget is exhausted (`accepts`, `refuses`, `exhausts`). For Exists.antt and steps/proofs/Ends.antt; the outcomes: specs/Settles.antt.
use mathlib.Core.List.Memᴰ
use mathlib.Core.List.{List, []}
use mathlib.Core.Logic.{⊎_elim}
use mathlib.Core.Path.{◌≡◌, refl, ◌∙◌}
use Prim.Native.Nat.{ℕ, suc, ◌≤◌, ◌<◌}
use native.Mathlib.Omega.{arith}
use lib.ListN.{length, take, drop, get_or}
use lib.Seq.{split_at, take-suc, take_all, get_or-take, length-take-le}
use Rattle.order.specs.Listing.{◌among◌}
use Rattle.order.specs.Paths.{Places, Listing}
use Rattle.order.proofs.Lists.{mem_at, lists_before}
use Rattle.order.proofs.Order.{irrefl, trans}
use Rattle.order.proofs.Rank.{rank-at, rank_is}
use Rattle.reply.specs.Settles.{Reach, QualifiesBy, Qualifies, Accepted, Refused, Exhausted}

module _ (g : Places) (w : Reach) {ps : List (List ℕ)} (l : Listing g ps) where
  -- none of the first k qualifies
  abbrev pub Barren : ℕ → Type 0
  Barren k = (q : List ℕ) → q among take k ps → ¬ Qualifies w q

  pub barren_more : (k : ℕ) → k < length ps → Barren k → ¬ Qualifies w (get_or ps k []) → Barren (suc k)
  barren_more k h b n q m x =
      ⊎_elim (λ a. b q a x) (λ a. let e : q ≡ get_or ps k [] = Memᴰ.eq_of_singleton a in n (rw e at x)) (Memᴰ.append_cases (take k ps) (rw (take-suc ps k [] h) at m))

  pub accepts : (budget k r : ℕ) → k < length ps → suc k ≤ budget → Barren k → QualifiesBy w (get_or ps k []) r → ((i : ℕ) → QualifiesBy w (get_or ps k []) i → r ≤ i)
      → Accepted g w budget (get_or ps k []) r (suc k)
  accepts budget k r h c b q low = record {
    simple = l.only (get_or ps k []) (mem_at ps k [] h);
    qualifies = q;
    lowest = low;
    first = λ q s e. b q ((lists_before irrefl trans (take k ps) (drop (suc k) ps) (rw (split_at ps k []) at l)).all q (s, e));
    rank = rank-at g l k h;
    covered = c;
  }

  pub refuses : (budget k : ℕ) → k ≡ length ps → k ≤ budget → Barren k → Refused g w budget k
  refuses budget k e c b = record {
    none = λ q s. b q (rw (take_all k ps (omega arith)) (l.all q s));
    all = (ps, l, e);
    covered = c;
  }

  pub exhausts : (k : ℕ) → k < length ps → Barren k → Exhausted g w k k
  exhausts k h b = record {
    spent = refl;
    more = (length ps, (ps, l, refl), omega arith);
    none = λ q i s t c.
        let (j, m, e, f) = rank_is g l s t in
        let n : j < length (take k ps) = rw (length-take-le k ps (omega arith)) (omega arith) in
        b q (rw (get_or-take k ps j [] (omega arith) ∙ e) at (mem_at (take k ps) j [] n));
  }
