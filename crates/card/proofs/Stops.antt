-- Any bytes at all get their content or one of 4 to 9: a file that can't be read stops at one of these (`file_stops`), so that what is
-- answered as read was read (`answered_read`), and a fault that is answered is where reading stopped (`answered_stopped`). Which bytes a fault hangs on: LeftToRight.antt.
use Prim.Native.Nat.{ℕ, zero, suc, ◌+◌, ◌*◌, ◌≤◌}
use mathlib.Core.Path.{◌≡◌, refl, ap, ◌∙◌}
use mathlib.Core.Bool.{Bool, true, false, cond, ◌&&◌}
use mathlib.Core.List.{List}
use native.Mathlib.Omega.{arith}
use lib.Dec.{eqb, leb, ltb}
use lib.ListN.{length, get_or}
use Rattle.std.specs.Prelude.{Result, Ok, Err}
use Rattle.places.specs.Limits.{roots_most, bundle_most}
use Rattle.fields.specs.Fields.{Parsed, got, stop, after, count_p, bytes_p, string_p, big_p, many, counted_p, whole, byte_p}
use Rattle.fields.specs.Spans.{span_p}
use Rattle.fields.specs.Runs.{run_p}
use Rattle.fields.specs.Answers.{number, handed, numbered}
use Rattle.fields.specs.declared.fault.Fault.{Fault}
use Rattle.names.specs.Names.{oid_most, value_most, rdn_most, name_most, attr_p, rdn_p, name_p}
use Rattle.lists.specs.Lists.{usage_most, usages_most, dns_name_most, dns_names_most, usage_p, dns_name_p}
use Rattle.lists.specs.Runs.{usages_p, dns_names_p}
use Rattle.extensions.specs.Extensions.{span_if_p, key_ids_p, path_length_p, extensions_p}
use Rattle.extensions.specs.Flags.{key_id_most, serial_most, flag}
use Rattle.record.specs.Record.{opening_p, dates_p, head_p, strings_p, names_p, record_p}
use Rattle.record.specs.Certificate.{algorithm_most, paired, flags_p}
use Rattle.certificates.specs.Certificates.{certificates_p, roots_p, bundle_p}
use Rattle.verdicts.specs.Verdicts.{verdict_p}
use Rattle.verdicts.specs.Grid.{grid_p}
use Rattle.task.specs.Task.{host_most, purpose_p}
use Rattle.task.specs.Placed.{times_p, task_p}
use Rattle.card.specs.Card.{card_p, file_p}
use Rattle.card.specs.Content.{file_most, edition_p}
use Rattle.card.specs.declared.Card.{Card}

-- where reading stops, it is at one of 4 to 9
pub record Stops {A : Type 0} (x : Parsed A) : Type 0 where
  pub at : (r : ℕ) → x ≡ stop r → (4 ≤ r) × (r ≤ 9)

module _ {A : Type 0} where
  goes : (a : A) (e : ℕ) → Stops (got a e)
  goes a e = record { at = λ r h. let z : ◌≡◌ {A = ℕ} 0 1 = cc in absurd (omega arith) }

  stops : (n : ℕ) → 4 ≤ n → n ≤ 9 → Stops {A = A} (stop n)
  stops n l h = record { at = λ r e. let z : n ≡ r = cc in (omega arith, omega arith) }

  judged : (b : Bool) {x y : Parsed A} → Stops x → Stops y → Stops (cond b x y)
  judged true s t = s
  judged false s t = t

module _ {A B : Type 0} where
  then : (x : Parsed A) {f : A → ℕ → Parsed B} → Stops x → ((a : A) (e : ℕ) → Stops (f a e)) → Stops (after x f)
  then (got a e) s t = t a e
  then (stop r) s t = record { at = λ q h. let z : r ≡ q = cc in s.at q (ap stop z) }

-- ---- the fields

bad : {A : Type 0} → Stops {A = A} (stop 7)
bad = stops 7 (omega arith) (omega arith)

short : {A : Type 0} → Stops {A = A} (stop 6)
short = stops 6 (omega arith) (omega arith)

wrong : {A : Type 0} → Stops {A = A} (stop 8)
wrong = stops 8 (omega arith) (omega arith)

module _ (s : List ℕ) where
  count : (least most at : ℕ) → Stops (count_p least most s at)
  unfolding count_p
  count least most at =
      judged (ltb at (length s)) (judged (leb least (get_or s at 0) && leb (get_or s at 0) most) (goes _ _) bad) short

  span : (least most at : ℕ) → Stops (span_p least most s at)
  unfolding span_p
  span least most at = then (count_p least most s at) (count least most at) (λ n e. judged (leb (e + n) (length s)) (goes _ _) short)

  bytes : (n at : ℕ) → Stops (bytes_p n s at)
  unfolding bytes_p
  bytes n at = judged (leb (at + n) (length s)) (goes _ _) short

  string : (least most at : ℕ) → Stops (string_p least most s at)
  unfolding string_p
  string least most at = then (count_p least most s at) (count least most at) (λ n e. bytes n e)

  big : (width at : ℕ) → Stops (big_p width s at)
  unfolding big_p
  big width at = then (bytes_p width s at) (bytes width at) (λ l e. goes _ _)

  module _ {A : Type 0} (p : List ℕ → ℕ → Parsed A) (each : (at : ℕ) → Stops (p s at)) where
    row : (n at : ℕ) → Stops (many p n s at)
    unfolding many
    row zero at = goes _ _
    row (suc n) at = then (p s at) (each at) (λ a e. then (many p n s e) (row n e) (λ l f. goes _ _))

    counted : (least most at : ℕ) → Stops (counted_p least most p s at)
    unfolding counted_p
    counted least most at = then (count_p least most s at) (count least most at) (λ n e. row n e)

  -- ---- names

  attr : (at : ℕ) → Stops (attr_p s at)
  unfolding attr_p
  attr at = then (string_p 1 oid_most s at) (string 1 oid_most at) (λ o e. then (string_p 0 value_most s e) (string 0 value_most e) (λ v f. goes _ _))

  rdn : (at : ℕ) → Stops (rdn_p s at)
  unfolding rdn_p
  rdn at = counted attr_p attr 1 rdn_most at

  name : (at : ℕ) → Stops (name_p s at)
  unfolding name_p
  name at = counted rdn_p rdn 0 name_most at

  -- ---- a record

  byte : (at : ℕ) → Stops (byte_p s at)
  unfolding byte_p
  byte at = count 0 255 at

  flags : (at : ℕ) → Stops (flags_p s at)
  unfolding flags_p
  flags at = then (byte_p s at) (byte at) (λ f e. judged (paired f) (goes _ _) wrong)

  opening : (at : ℕ) → Stops (opening_p s at)
  unfolding opening_p
  opening at = then (byte_p s at) (byte at) (λ v e. then (flags_p s e) (flags e) (λ f g. goes _ _))

  dates : (at : ℕ) → Stops (dates_p s at)
  unfolding dates_p
  dates at = then (big_p 8 s at) (big 8 at) (λ b e. then (big_p 8 s e) (big 8 e) (λ a f. goes _ _))

  head : (at : ℕ) → Stops (head_p s at)
  unfolding head_p
  head at = then (opening_p s at) (opening at) (λ v e. then (dates_p s e) (dates e) (λ d f. goes _ _))

  strings : (at : ℕ) → Stops (strings_p s at)
  unfolding strings_p
  strings at =
      then (span_p 1 serial_most s at) (span 1 serial_most at) (λ a e.
      then (span_p 1 algorithm_most s e) (span 1 algorithm_most e) (λ b f.
      then (span_p 1 algorithm_most s f) (span 1 algorithm_most f) (λ c g. goes _ _)))

  names : (at : ℕ) → Stops (names_p s at)
  unfolding names_p
  names at = then (name_p s at) (name at) (λ _ e. then (name_p s e) (name e) (λ _ f. goes _ _))

  option : (b : Bool) (most at : ℕ) → Stops (span_if_p b most s at)
  unfolding span_if_p
  option b most at = judged b (span 1 most at) (goes _ _)

  key_ids : (f at : ℕ) → Stops (key_ids_p f s at)
  unfolding key_ids_p
  key_ids f at =
      then (span_if_p (flag 1 f) key_id_most s at) (option (flag 1 f) key_id_most at) (λ a e.
      then (span_if_p (flag 2 f) serial_most s e) (option (flag 2 f) serial_most e) (λ b g.
      then (span_if_p (flag 4 f) key_id_most s g) (option (flag 4 f) key_id_most g) (λ c h. goes _ _)))

  path-length : (f at : ℕ) → Stops (path_length_p f s at)
  unfolding path_length_p
  path-length f at = judged (flag 16 f) (byte at) (goes _ _)

  usage : (at : ℕ) → Stops (usage_p s at)
  unfolding usage_p
  usage at = then (byte_p s at) (byte at) (λ u e. judged (leb u usage_most) (goes _ _) wrong)

  dns_name : (at : ℕ) → Stops (dns_name_p s at)
  unfolding dns_name_p
  dns_name at = string 1 dns_name_most at

  listed : {A : Type 0} (most : ℕ) (p : List ℕ → ℕ → Parsed A) → ((at : ℕ) → Stops (p s at)) → (at : ℕ) → Stops (run_p 0 most p s at)
  unfolding run_p
  listed most p each at = then (count_p 0 most s at) (count 0 most at) (λ n e. then (many p n s e) (row p each n e) (λ _ f. goes _ _))

  extensions : (f at : ℕ) → Stops (extensions_p f s at)
  unfolding extensions_p
  extensions f at =
      then (key_ids_p f s at) (key_ids f at) (λ k e.
      then (path_length_p f s e) (path-length f e) (λ l g.
      then (usages_p s g) (listed usages_most usage_p usage g) (λ u h.
      then (dns_names_p s h) (listed dns_names_most dns_name_p dns_name h) (λ d i. goes _ _))))

  a_record : (at : ℕ) → Stops (record_p s at)
  unfolding record_p
  a_record at =
      then (head_p s at) (head at) (λ h e.
      then (strings_p s e) (strings e) (λ t f.
      then (names_p s f) (names f) (λ n g.
      then (extensions_p h.flags s g) (extensions h.flags g) (λ x i. goes _ _))))

  -- ---- the file

  edition : (at : ℕ) → Stops (edition_p s at)
  unfolding edition_p
  edition at = then (byte_p s at) (byte at) (λ n e. judged (eqb n 1) (goes _ _) (stops 4 (omega arith) (omega arith)))

  certificates : (most at : ℕ) → Stops (certificates_p most s at)
  unfolding certificates_p
  certificates most at = then (counted_p 0 most record_p s at) (counted record_p a_record 0 most at) (λ l e. goes _ _)

  verdict : (at : ℕ) → Stops (verdict_p s at)
  unfolding verdict_p
  verdict at = then (byte_p s at) (byte at) (λ v e. judged (leb v 1) (goes _ _) wrong)

  verdicts : (r b at : ℕ) → Stops (grid_p r b s at)
  unfolding grid_p
  verdicts r b at =
      then (big_p 2 s at) (big 2 at) (λ n e.
      judged (eqb n ((r + b) * b)) (then (many verdict_p n s e) (row verdict_p verdict n e) (λ _ f. goes _ _)) bad)

  times : (at : ℕ) → Stops (times_p s at)
  unfolding times_p
  times at =
      then (count_p 1 1 s at) (count 1 1 at) (λ _ e. then (big_p 8 s e) (big 8 e) (λ n f. then (big_p 8 s f) (big 8 f) (λ b g. goes _ _)))

  purpose : (at : ℕ) → Stops (purpose_p s at)
  unfolding purpose_p
  purpose at = then (byte_p s at) (byte at) (λ p e. judged (eqb p 0) (goes _ _) wrong)

  task : (at : ℕ) → Stops (task_p s at)
  unfolding task_p
  task at =
      then (times_p s at) (times at) (λ t e. then (purpose_p s e) (purpose e) (λ _ f. then (span_p 0 host_most s f) (span 0 host_most f) (λ h g. goes _ _)))

  card : (at : ℕ) → Stops (card_p s at)
  unfolding card_p
  card at =
      then (edition_p s at) (edition at) (λ _ e.
      then (roots_p s e) (certificates roots_most e) (λ r f.
      then (bundle_p s f) (certificates bundle_most f) (λ b g.
      then (grid_p r.count b.count s g) (verdicts r.count b.count g) (λ v h.
      then (task_p s h) (task h) (λ t i. goes _ _)))))

  pub file_stops : Stops (file_p s)
  unfolding file_p whole
  file_stops =
      judged (leb (length s) file_most)
      (then (card_p s 0) (card 0) (λ c e. judged (ltb e (length s)) (stops 9 (omega arith) (omega arith)) (goes _ _)))
      (stops 5 (omega arith) (omega arith))

-- ---- what is answered

-- a card was read from the file
pub record WasRead (s : List ℕ) (c : Card) : Type 0 where
  pub end : ℕ
  pub is : file_p s ≡ got c end

module _ (s : List ℕ) (r : Result Card Fault) (says : numbered r ≡ handed (file_p s)) where
  pub answered_read : (c : Card) → r ≡ Ok c → WasRead s c
  answered_read c o = by_file (file_p s) refl
    where
      by_file : (x : Parsed Card) → file_p s ≡ x → WasRead s c
      by_file (got d e) k =
          let same : d ≡ c = cc (says, ap numbered o, ap handed k) in
          record { end = e; is = k ∙ ap (λ (c : Card). got c e) same }
      by_file (stop n) k = cc (says, ap numbered o, ap handed k)

  pub answered_stopped : (f : Fault) → r ≡ Err f → file_p s ≡ stop (number f)
  answered_stopped f o = by_file (file_p s) refl
    where
      by_file : (x : Parsed Card) → file_p s ≡ x → file_p s ≡ stop (number f)
      by_file (got c e) k = cc (says, ap numbered o, ap handed k)
      by_file (stop n) k =
          let same : n ≡ number f = cc (says, ap numbered o, ap handed k) in
          k ∙ ap stop same
