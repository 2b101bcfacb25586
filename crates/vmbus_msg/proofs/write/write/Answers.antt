use Rattle.vmbus_msg.specs.Grammar.{bytes_of_message}
use Rattle.vmbus_msg.proofs.MsgLaws.{front_as, fit_as, frames_as}
use Rattle.vmbus_msg.proofs.write.write.Goals as goal

pub returns-in-OfferChannel-clause-frames : goal.returns-in-OfferChannel-clause-frames
returns-in-OfferChannel-clause-frames c = frames_as _ _ c.in-OfferChannel.is tt

pub returns-in-RescindChannelOffer-clause-bytes : goal.returns-in-RescindChannelOffer-clause-bytes
unfolding bytes_of_message
returns-in-RescindChannelOffer-clause-bytes c = front_as _ _ _ c.in-RescindChannelOffer.is c.put_words.ensures.front

pub returns-in-RescindChannelOffer-clause-fields : goal.returns-in-RescindChannelOffer-clause-fields
returns-in-RescindChannelOffer-clause-fields c = fit_as _ _ c.in-RescindChannelOffer.is c.put_words.ensures.fit.1

pub returns-in-RescindChannelOffer-clause-frames : goal.returns-in-RescindChannelOffer-clause-frames
returns-in-RescindChannelOffer-clause-frames c = frames_as _ _ c.in-RescindChannelOffer.is tt

pub returns-in-RequestOffers-clause-bytes : goal.returns-in-RequestOffers-clause-bytes
unfolding bytes_of_message
returns-in-RequestOffers-clause-bytes c = front_as _ _ _ c.in-RequestOffers.is c.put_words-in-RequestOffers.ensures.front

pub returns-in-RequestOffers-clause-fields : goal.returns-in-RequestOffers-clause-fields
returns-in-RequestOffers-clause-fields c = fit_as _ _ c.in-RequestOffers.is c.put_words-in-RequestOffers.ensures.fit.1

pub returns-in-RequestOffers-clause-frames : goal.returns-in-RequestOffers-clause-frames
returns-in-RequestOffers-clause-frames c = frames_as _ _ c.in-RequestOffers.is tt

pub returns-in-AllOffersDelivered-clause-bytes : goal.returns-in-AllOffersDelivered-clause-bytes
unfolding bytes_of_message
returns-in-AllOffersDelivered-clause-bytes c = front_as _ _ _ c.in-AllOffersDelivered.is c.put_words-in-AllOffersDelivered.ensures.front

pub returns-in-AllOffersDelivered-clause-fields : goal.returns-in-AllOffersDelivered-clause-fields
returns-in-AllOffersDelivered-clause-fields c = fit_as _ _ c.in-AllOffersDelivered.is c.put_words-in-AllOffersDelivered.ensures.fit.1

pub returns-in-AllOffersDelivered-clause-frames : goal.returns-in-AllOffersDelivered-clause-frames
returns-in-AllOffersDelivered-clause-frames c = frames_as _ _ c.in-AllOffersDelivered.is tt

pub returns-in-OpenChannel-clause-frames : goal.returns-in-OpenChannel-clause-frames
returns-in-OpenChannel-clause-frames c = frames_as _ _ c.in-OpenChannel.is tt

pub returns-in-OpenChannelResult-clause-bytes : goal.returns-in-OpenChannelResult-clause-bytes
unfolding bytes_of_message
returns-in-OpenChannelResult-clause-bytes c = front_as _ _ _ c.in-OpenChannelResult.is c.put_words-in-OpenChannelResult.ensures.front

pub returns-in-OpenChannelResult-clause-fields : goal.returns-in-OpenChannelResult-clause-fields
returns-in-OpenChannelResult-clause-fields c = fit_as _ _ c.in-OpenChannelResult.is c.put_words-in-OpenChannelResult.ensures.fit.1

pub returns-in-OpenChannelResult-clause-frames : goal.returns-in-OpenChannelResult-clause-frames
returns-in-OpenChannelResult-clause-frames c = frames_as _ _ c.in-OpenChannelResult.is tt

pub returns-in-CloseChannel-clause-bytes : goal.returns-in-CloseChannel-clause-bytes
unfolding bytes_of_message
returns-in-CloseChannel-clause-bytes c = front_as _ _ _ c.in-CloseChannel.is c.put_words-in-CloseChannel.ensures.front

pub returns-in-CloseChannel-clause-fields : goal.returns-in-CloseChannel-clause-fields
returns-in-CloseChannel-clause-fields c = fit_as _ _ c.in-CloseChannel.is c.put_words-in-CloseChannel.ensures.fit.1

pub returns-in-CloseChannel-clause-frames : goal.returns-in-CloseChannel-clause-frames
returns-in-CloseChannel-clause-frames c = frames_as _ _ c.in-CloseChannel.is tt

pub returns-in-GpadlHeader-clause-bytes : goal.returns-in-GpadlHeader-clause-bytes
returns-in-GpadlHeader-clause-bytes c = front_as _ _ _ c.in-GpadlHeader.is c.write_header.ensures.bytes

pub returns-in-GpadlHeader-clause-fields : goal.returns-in-GpadlHeader-clause-fields
returns-in-GpadlHeader-clause-fields c = fit_as _ _ c.in-GpadlHeader.is c.write_header.ensures.fields

pub returns-in-GpadlHeader-clause-frames : goal.returns-in-GpadlHeader-clause-frames
returns-in-GpadlHeader-clause-frames c = frames_as _ _ c.in-GpadlHeader.is c.write_header.ensures.frames

pub returns-in-GpadlBody-clause-bytes : goal.returns-in-GpadlBody-clause-bytes
returns-in-GpadlBody-clause-bytes c = front_as _ _ _ c.in-GpadlBody.is c.write_body.ensures.bytes

pub returns-in-GpadlBody-clause-fields : goal.returns-in-GpadlBody-clause-fields
returns-in-GpadlBody-clause-fields c = fit_as _ _ c.in-GpadlBody.is c.write_body.ensures.fields

pub returns-in-GpadlBody-clause-frames : goal.returns-in-GpadlBody-clause-frames
returns-in-GpadlBody-clause-frames c = frames_as _ _ c.in-GpadlBody.is c.write_body.ensures.frames

pub returns-in-GpadlCreated-clause-bytes : goal.returns-in-GpadlCreated-clause-bytes
unfolding bytes_of_message
returns-in-GpadlCreated-clause-bytes c = front_as _ _ _ c.in-GpadlCreated.is c.put_words-in-GpadlCreated.ensures.front

pub returns-in-GpadlCreated-clause-fields : goal.returns-in-GpadlCreated-clause-fields
returns-in-GpadlCreated-clause-fields c = fit_as _ _ c.in-GpadlCreated.is c.put_words-in-GpadlCreated.ensures.fit.1

pub returns-in-GpadlCreated-clause-frames : goal.returns-in-GpadlCreated-clause-frames
returns-in-GpadlCreated-clause-frames c = frames_as _ _ c.in-GpadlCreated.is tt

pub returns-in-GpadlTeardown-clause-bytes : goal.returns-in-GpadlTeardown-clause-bytes
unfolding bytes_of_message
returns-in-GpadlTeardown-clause-bytes c = front_as _ _ _ c.in-GpadlTeardown.is c.put_words-in-GpadlTeardown.ensures.front

pub returns-in-GpadlTeardown-clause-fields : goal.returns-in-GpadlTeardown-clause-fields
returns-in-GpadlTeardown-clause-fields c = fit_as _ _ c.in-GpadlTeardown.is c.put_words-in-GpadlTeardown.ensures.fit.1

pub returns-in-GpadlTeardown-clause-frames : goal.returns-in-GpadlTeardown-clause-frames
returns-in-GpadlTeardown-clause-frames c = frames_as _ _ c.in-GpadlTeardown.is tt

pub returns-in-GpadlTorndown-clause-bytes : goal.returns-in-GpadlTorndown-clause-bytes
unfolding bytes_of_message
returns-in-GpadlTorndown-clause-bytes c = front_as _ _ _ c.in-GpadlTorndown.is c.put_words-in-GpadlTorndown.ensures.front

pub returns-in-GpadlTorndown-clause-fields : goal.returns-in-GpadlTorndown-clause-fields
returns-in-GpadlTorndown-clause-fields c = fit_as _ _ c.in-GpadlTorndown.is c.put_words-in-GpadlTorndown.ensures.fit.1

pub returns-in-GpadlTorndown-clause-frames : goal.returns-in-GpadlTorndown-clause-frames
returns-in-GpadlTorndown-clause-frames c = frames_as _ _ c.in-GpadlTorndown.is tt

pub returns-in-RelidReleased-clause-bytes : goal.returns-in-RelidReleased-clause-bytes
unfolding bytes_of_message
returns-in-RelidReleased-clause-bytes c = front_as _ _ _ c.in-RelidReleased.is c.put_words-in-RelidReleased.ensures.front

pub returns-in-RelidReleased-clause-fields : goal.returns-in-RelidReleased-clause-fields
returns-in-RelidReleased-clause-fields c = fit_as _ _ c.in-RelidReleased.is c.put_words-in-RelidReleased.ensures.fit.1

pub returns-in-RelidReleased-clause-frames : goal.returns-in-RelidReleased-clause-frames
returns-in-RelidReleased-clause-frames c = frames_as _ _ c.in-RelidReleased.is tt

pub returns-in-InitiateContact-clause-bytes : goal.returns-in-InitiateContact-clause-bytes
unfolding bytes_of_message
returns-in-InitiateContact-clause-bytes c = front_as _ _ _ c.in-InitiateContact.is c.put_pieces-in-InitiateContact.ensures.front

pub returns-in-InitiateContact-clause-fields : goal.returns-in-InitiateContact-clause-fields
returns-in-InitiateContact-clause-fields c = fit_as _ _ c.in-InitiateContact.is c.put_pieces-in-InitiateContact.ensures.fit.1

pub returns-in-InitiateContact-clause-frames : goal.returns-in-InitiateContact-clause-frames
returns-in-InitiateContact-clause-frames c = frames_as _ _ c.in-InitiateContact.is tt

pub returns-in-VersionResponse-clause-bytes : goal.returns-in-VersionResponse-clause-bytes
unfolding bytes_of_message
returns-in-VersionResponse-clause-bytes c = front_as _ _ _ c.in-VersionResponse.is c.put_pieces-in-VersionResponse.ensures.front

pub returns-in-VersionResponse-clause-fields : goal.returns-in-VersionResponse-clause-fields
returns-in-VersionResponse-clause-fields c = fit_as _ _ c.in-VersionResponse.is c.put_pieces-in-VersionResponse.ensures.fit.1

pub returns-in-VersionResponse-clause-frames : goal.returns-in-VersionResponse-clause-frames
returns-in-VersionResponse-clause-frames c = frames_as _ _ c.in-VersionResponse.is tt

pub returns-in-Unload-clause-bytes : goal.returns-in-Unload-clause-bytes
unfolding bytes_of_message
returns-in-Unload-clause-bytes c = front_as _ _ _ c.in-Unload.is c.put_words-in-Unload.ensures.front

pub returns-in-Unload-clause-fields : goal.returns-in-Unload-clause-fields
returns-in-Unload-clause-fields c = fit_as _ _ c.in-Unload.is c.put_words-in-Unload.ensures.fit.1

pub returns-in-Unload-clause-frames : goal.returns-in-Unload-clause-frames
returns-in-Unload-clause-frames c = frames_as _ _ c.in-Unload.is tt

pub returns-in-UnloadResponse-clause-bytes : goal.returns-in-UnloadResponse-clause-bytes
unfolding bytes_of_message
returns-in-UnloadResponse-clause-bytes c = front_as _ _ _ c.in-UnloadResponse.is c.put_words-in-UnloadResponse.ensures.front

pub returns-in-UnloadResponse-clause-fields : goal.returns-in-UnloadResponse-clause-fields
returns-in-UnloadResponse-clause-fields c = fit_as _ _ c.in-UnloadResponse.is c.put_words-in-UnloadResponse.ensures.fit.1

pub returns-in-UnloadResponse-clause-frames : goal.returns-in-UnloadResponse-clause-frames
returns-in-UnloadResponse-clause-frames c = frames_as _ _ c.in-UnloadResponse.is tt

pub returns-in-TlConnectRequest-clause-frames : goal.returns-in-TlConnectRequest-clause-frames
returns-in-TlConnectRequest-clause-frames c = frames_as _ _ c.in-TlConnectRequest.is tt

pub returns-in-ModifyChannel-clause-bytes : goal.returns-in-ModifyChannel-clause-bytes
unfolding bytes_of_message
returns-in-ModifyChannel-clause-bytes c = front_as _ _ _ c.in-ModifyChannel.is c.put_words-in-ModifyChannel.ensures.front

pub returns-in-ModifyChannel-clause-fields : goal.returns-in-ModifyChannel-clause-fields
returns-in-ModifyChannel-clause-fields c = fit_as _ _ c.in-ModifyChannel.is c.put_words-in-ModifyChannel.ensures.fit.1

pub returns-in-ModifyChannel-clause-frames : goal.returns-in-ModifyChannel-clause-frames
returns-in-ModifyChannel-clause-frames c = frames_as _ _ c.in-ModifyChannel.is tt

pub returns-in-ModifyChannelResponse-clause-bytes : goal.returns-in-ModifyChannelResponse-clause-bytes
unfolding bytes_of_message
returns-in-ModifyChannelResponse-clause-bytes c = front_as _ _ _ c.in-ModifyChannelResponse.is c.put_words-in-ModifyChannelResponse.ensures.front

pub returns-in-ModifyChannelResponse-clause-fields : goal.returns-in-ModifyChannelResponse-clause-fields
returns-in-ModifyChannelResponse-clause-fields c = fit_as _ _ c.in-ModifyChannelResponse.is c.put_words-in-ModifyChannelResponse.ensures.fit.1

pub returns-in-ModifyChannelResponse-clause-frames : goal.returns-in-ModifyChannelResponse-clause-frames
returns-in-ModifyChannelResponse-clause-frames c = frames_as _ _ c.in-ModifyChannelResponse.is tt
