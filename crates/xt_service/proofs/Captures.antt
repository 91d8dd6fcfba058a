-- What a closure captured may go to another thread, where each capture may.
use denote.RattleType.{RattleType}
use denote.Param.Send.{AllSend, IsSend, recorded_send, struct_send}
use denote.Struct.Declared.{shape}
use denote.Struct.Field.{rows}
use denote.Struct.Tuple.{TupleAt, parts, type_at}
use mathlib.Core.List.{List, [], ◌∷◌}
use mir.Syntax.{Sym}

module _ (name : Sym) where
  captures_send : (Ts : List RattleType) → AllSend (rows (parts Ts)) → IsSend (TupleAt name Ts)
  captures_send Ts all = recorded_send _ _ _ (type_at name Ts).to_one (struct_send (shape (type_at name Ts)) all)

  pub four_send : {A B C D : RattleType} → IsSend A → IsSend B → IsSend C → IsSend D → IsSend (TupleAt name (A ∷ B ∷ C ∷ D ∷ []))
  four_send a b c d = captures_send (_ ∷ _ ∷ _ ∷ _ ∷ []) (a, (b, (c, (d, tt))))

  pub eight_send : {A B C D E F G I : RattleType} → IsSend A → IsSend B → IsSend C → IsSend D → IsSend E → IsSend F → IsSend G → IsSend I → IsSend (TupleAt name (A ∷ B ∷ C ∷ D ∷ E ∷ F ∷ G ∷ I ∷ []))
  eight_send a b c d e f g i = captures_send (_ ∷ _ ∷ _ ∷ _ ∷ _ ∷ _ ∷ _ ∷ _ ∷ []) (a, (b, (c, (d, (e, (f, (g, (i, tt))))))))
