use Rattle.std.proofs.Common.{◌≡◌, ℕ, zero, suc, ◌+◌, ◌-◌, ◌*◌, ◌<◌, ◌≤◌, List, [], ◌∷◌, ◌++◌, take, length, get_or, Some, false, true, ap, sym, ◌∙◌, subst, add-one, arith}
use Rattle.std.specs.Prelude.{slice_get}
use Rattle.std.specs.List.{AllByRecursion}
use Rattle.std.proofs.Math.Nat.{mul-le-mul_left, mul-suc}
use Rattle.std.proofs.lemmas.List.{take_more}
use Rattle.std.proofs.lemmas.Nat.{mul-le}
use Rattle.std.proofs.lemmas.Option.{slice_get-get_or, slice_get_within}
use Rattle.subformulas.specs.declared.table.Sub.{Sub}
use Rattle.subformulas.specs.NeedList.{HasFewVariables}
use Rattle.subformulas.specs.Table.{HasFewTerms, UsesBelow}
use Rattle.subformulas.proofs.Uses.{filled_more}
use Rattle.subformulas.proofs.need_list.add_all.Goals as goal

all_at : (P : Sub → Type 0) (subs : List Sub) (k : ℕ) (s : Sub) → AllByRecursion P subs → slice_get subs k ≡ Some s → P s
all_at P [] k s all e = let no : ⊥ = cc in absurd no
all_at P (r ∷ subs) zero s all e = let same : r ≡ s = cc in subst P same all.0
all_at P (r ∷ subs) (suc k) s all e = all_at P subs k s all.1 e

some_same : (r s : Sub) → Some r ≡ Some s → r ≡ s
some_same r s e = cc

subs_more : (subs : List Sub) (k : ℕ) (s : Sub) → slice_get subs k ≡ Some s → take (k + 1) subs ≡ take k subs ++ s ∷ []
subs_more subs k s at =
    let within = slice_get_within subs k s at in
    let here : get_or subs k s ≡ s = some_same (get_or subs k s) s (sym (slice_get-get_or subs k s within) ∙ at) in
    take_more subs k s within ∙ ap (λ r. take k subs ++ r ∷ []) here

once_more : (v k : ℕ) → v * (k + 1) ≡ v * k + v
once_more v k = rw add-one (mul-suc v k)

-- there is room for one subformula's more
enough : (v k n count room : ℕ) → count ≤ v * k → k < n → v * n ≤ room → count + v ≤ room
enough v k n count room few less all =
    let next : k + 1 ≤ n = omega (arith, less) in
    let most = mul-le-mul_left v next in
    let one = once_more v k in
    omega (arith, most, one, few, all)

-- at most 64 times 4,096
few_all : (v n : ℕ) → v ≤ 64 → n ≤ 4096 → v * n ≤ 262144
few_all v n p q = mul-le v n 64 4096 p q

pub overflow_cast-variables : goal.overflow_cast-variables
overflow_cast-variables c = let few = c.count-count.ensures.sound.few_variables in rw c.variables.ensures (omega (arith, few))

pub add_kind-requires-clause-few : goal.add_kind-requires-clause-few
add_kind-requires-clause-few c = all_at (λ s. HasFewTerms s.kind) c.args.plan.now.subs _ c.sub.result.now c.requires.few c.sub.ensures

pub add_kind-requires-clause-below : goal.add_kind-requires-clause-below
add_kind-requires-clause-below c =
    rw c.variables.ensures (all_at (λ s. UsesBelow (length c.args.plan.now.variables) s.kind) c.args.plan.now.subs _ c.sub.result.now c.count-count.ensures.sound.uses c.sub.ensures)

pub add_kind-requires-clause-few_entries : goal.add_kind-requires-clause-few_entries
add_kind-requires-clause-few_entries c =
    let v = length c.args.plan.now.variables in
    let n = length c.args.plan.now.subs in
    let within : c.loop-k.k < n = omega (arith, c.loop-k-test.true, c.count-count.ensures.count) in
    let all = few_all v n c.count-count.ensures.sound.few_variables c.count-count.ensures.sound.few_rows in
    let l = enough v c.loop-k.k n (length c.loop-k.entries.items) 262144 c.loop-k.invariant.entries within all in
    rw c.variables.ensures (omega (arith, l))

pub add_kind-requires-clause-few_uses : goal.add_kind-requires-clause-few_uses
add_kind-requires-clause-few_uses c =
    let v = length c.args.plan.now.variables in
    let n = length c.args.plan.now.subs in
    let within : c.loop-k.k < n = omega (arith, c.loop-k-test.true, c.count-count.ensures.count) in
    let all = few_all v n c.count-count.ensures.sound.few_variables c.count-count.ensures.sound.few_rows in
    let l = enough v c.loop-k.k n (length c.loop-k.uses.items) 262144 c.loop-k.invariant.uses within all in
    rw c.variables.ensures (omega (arith, l))

pub returns-in_err-slot-clause-room : goal.returns-in_err-slot-clause-room
returns-in_err-slot-clause-room c = λ entry_room use_room matched_room all_few.
    let subs = c.args.plan.now.subs in
    let v = length c.args.plan.now.variables in
    let inv = c.loop-k.invariant in
    let few = all_at (λ s. HasFewVariables s.kind) subs _ c.sub.result.now all_few c.sub.ensures in
    let within : c.loop-k.k < length subs = omega (arith, c.loop-k-test.true, c.count-count.ensures.count) in
    let entries = let r = inv.entry_room in enough v c.loop-k.k (length subs) _ _ inv.entries within (omega (arith, r, entry_room)) in
    let uses = let r = inv.use_room in enough v c.loop-k.k (length subs) _ _ inv.uses within (omega (arith, r, use_room)) in
    let room = rw c.variables.ensures at c.in_err-slot.ensures.room in
    let never : false ≡ true = room few entries uses in cc

pub loop-k-preserved : goal.loop-k-preserved
loop-k-preserved c =
    let subs = c.args.plan.now.subs in
    let v = length c.args.plan.now.variables in
    let k = c.loop-k.k in
    let inv = c.loop-k.invariant in
    let one = c.in_ok-slot.ensures in
    let place : k + 1 - 1 ≡ k = omega arith in
    let at = rw place at c.sub.ensures in
    let added = rw c.variables.ensures at one.added in
    let filled = filled_more v (take k subs) c.sub.result.now c.args.event.now c.loop-k.entries.items c.add_kind.new.entries.items c.loop-k.uses.items c.add_kind.new.uses.items c.loop-k.matched.items c.in_ok-slot.slot inv.filled added in
    record {
      filled = rw (subs_more subs k c.sub.result.now at, c.in_ok-push.ensures.items) filled;
      listed = rw c.variables.ensures at one.listed;
      entries = let a = rw c.variables.ensures at one.entries in let b = inv.entries in let m = once_more v k in omega (arith, a, b, m);
      uses = let a = rw c.variables.ensures at one.uses in let b = inv.uses in let m = once_more v k in omega (arith, a, b, m);
      entry_room = let a = inv.entry_room in let b = one.entry_room in omega (arith, a, b);
      use_room = let a = inv.use_room in let b = one.use_room in omega (arith, a, b);
      matched_room = let a = inv.matched_room in let b = c.in_ok-push.ensures.capacity in omega (arith, a, b);
    }
