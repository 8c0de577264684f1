mod HandedOver
