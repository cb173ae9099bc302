-- A search through the paths of which P holds: a path's rank is its place in their list, counted from 1 (`rank_in`, `in_rank`), each has
-- one and two have two (`rank_in_unique`, `rank_in_tells`), and they have one number (`count_in_unique`); then what is settled after k of
-- them are taken, none of which qualifies (`accepts_in`, `refuses_in`, `exhausts_in`). As order/proofs/Rank.antt and
-- reply/proofs/Settled.antt have it of all simple paths. The outcomes: specs/Later.antt.
use mathlib.Core.List.{List, []}
use mathlib.Core.Path.{◌≡◌, refl, sym, ap, ◌∙◌}
use Prim.Native.Nat.{ℕ, suc, ◌≤◌, ◌<◌}
use native.Mathlib.Nat.{le_of_lt}
use native.Mathlib.Omega.{arith}
use lib.ListN.{length, take, drop, get_or}
use lib.Seq.{split_at, take_all, get_or-take, length-take-le}
use Rattle.order.specs.Listing.{◌among◌, Lists}
use Rattle.order.specs.Paths.{Before}
use Rattle.order.proofs.Lists.{lists_unique, lists_before, mem_at, mem_index}
use Rattle.order.proofs.Order.{irrefl, trans}
use Rattle.reply.specs.Settles.{Reach, QualifiesBy, Qualifies}
use Rattle.marks.specs.Later.{RankIn, CountIn, AcceptedIn, RefusedIn, ExhaustedIn}

module _ (P : List ℕ → Type 0) where
  -- ---- ranks and number

  pub rank_in_unique : (p : List ℕ) {r i : ℕ} → RankIn P p r → RankIn P p i → r ≡ i
  rank_in_unique p (qs, l, e) (rs, m, f) = e ∙ ap (λ q. suc (length q)) (lists_unique irrefl trans l m) ∙ sym f

  pub count_in_unique : {c d : ℕ} → CountIn P c → CountIn P d → c ≡ d
  count_in_unique (ps, l, e) (qs, m, f) = e ∙ ap length (lists_unique irrefl trans l m) ∙ sym f

  module _ {ps : List (List ℕ)} (l : Lists Before P ps) where
    pub rank_in : (k : ℕ) → k < length ps → RankIn P (get_or ps k []) (suc k)
    rank_in k h = (take k ps, lists_before irrefl trans (take k ps) (drop (suc k) ps) (rw (split_at ps k []) at l), ap suc (sym (length-take-le k ps (le_of_lt h))))

    pub in_rank : {p : List ℕ} {r : ℕ} → P p → RankIn P p r → (k : ℕ) × (k < length ps) × (get_or ps k [] ≡ p) × (r ≡ suc k)
    in_rank {p} t q = let (k, h, e) = mem_index (l.all p t) [] in (k, h, e, rank_in_unique p q (rw e at (rank_in k h)))

    -- two of one rank are one path
    pub rank_in_tells : {p q : List ℕ} {r : ℕ} → P p → P q → RankIn P p r → RankIn P q r → p ≡ q
    rank_in_tells s t x y =
        let (k, _, e, f) = in_rank s x in
        let (j, _, d, h) = in_rank t y in
        let m : k ≡ j = omega arith in
        sym e ∙ ap (λ n. get_or ps n []) m ∙ d

    -- ---- what is settled, where none of the first k qualifies

    module _ (w : Reach) {k : ℕ} (b : (q : List ℕ) → q among take k ps → ¬ Qualifies w q) where
      pub accepts_in : (budget r : ℕ) → k < length ps → suc k ≤ budget → QualifiesBy w (get_or ps k []) r → ((i : ℕ) → QualifiesBy w (get_or ps k []) i → r ≤ i)
          → AcceptedIn P w budget (get_or ps k []) r (suc k)
      accepts_in budget r h c q low = record {
        there = l.only (get_or ps k []) (mem_at ps k [] h);
        qualifies = q;
        lowest = low;
        first = λ q s e. b q ((lists_before irrefl trans (take k ps) (drop (suc k) ps) (rw (split_at ps k []) at l)).all q (s, e));
        rank = rank_in k h;
        covered = c;
      }

      pub refuses_in : (budget : ℕ) → k ≡ length ps → k ≤ budget → RefusedIn P w budget k
      refuses_in budget e c = record {
        none = λ q s. b q (rw (take_all k ps (omega arith)) (l.all q s));
        all = (ps, l, e);
        covered = c;
      }

      pub exhausts_in : k < length ps → ExhaustedIn P w k k
      exhausts_in h = record {
        spent = refl;
        more = (length ps, (ps, l, refl), omega arith);
        none = λ q i s t c.
            let (j, m, e, f) = in_rank s t in
            let n : j < length (take k ps) = rw (length-take-le k ps (omega arith)) (omega arith) in
            b q (rw (get_or-take k ps j [] (omega arith) ∙ e) at (mem_at (take k ps) j [] n));
      }
