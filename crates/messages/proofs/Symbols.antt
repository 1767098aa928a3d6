-- The two forms of a symbol.
use Rattle.std.proofs.Common.{◌≡◌, ◌<◌, [], ◌∷◌, ◌++◌, length, sym, ap, ◌∙◌, subst, arith, lit<, lit≤}
use Rattle.std.specs.Int.Digits.{number_from_digits, AllBelowBase}
use Rattle.std.proofs.ByRecursion.{All-append}
use Rattle.std.proofs.lemmas.List.{append-nil, length-append}
use Rattle.layout.specs.declared.class.Class.TheVariants.{Graphic}
use Rattle.layout.proofs.Digits.{same_digits}
use Rattle.layout.proofs.Padding.{under-padded}
use Rattle.messages.specs.Promises.{SymbolsAgree}

pub symbols-agree : SymbolsAgree
symbols-agree p q v w short long =
    let pad = 32 ∷ 32 ∷ [] in
    let left : number_from_digits 256 (p ++ pad) ≡ v = short.value in
    let right : number_from_digits 256 q ≡ w = rw append-nil at long.value in
    let under-p : AllBelowBase 256 p = subst (AllBelowBase 256) (sym short.split) (under-padded Graphic short.name short.spaces short.inside) in
    let under-q : AllBelowBase 256 q = subst (AllBelowBase 256) (sym long.split) (under-padded Graphic long.name long.spaces long.inside) in
    let under : AllBelowBase 256 (p ++ pad) = All-append (λ d. d < 256) p pad under-p (lit< tt, (lit< tt, tt)) in
    let size : length q ≡ length (p ++ pad) = simp length-append (omega (arith, short.size, long.size)) in (
      (λ e. same_digits 256 q (p ++ pad) (lit≤ tt) under-q under size (right ∙ sym e ∙ sym left)),
      (λ e. sym left ∙ ap (number_from_digits 256) (sym e) ∙ right),
    )
